-- Maps from names to numbers, and names of which each is another.
use Rattle.std.specs.Prelude.{◌≡◌, Vec, ℕ, false, List, [], ◌∷◌, Option, None, map}
use Rattle.std.specs.BTreeMap.{BTreeMap, get_by, keys}
use Rattle.std.specs.Cmp.Lexicographic.{slice_cmp}
use Rattle.std.specs.Ordering.{nat_cmp}
use Rattle.std.specs.declared.alloc.Global.{Global}
use Rattle.told_folder.specs.declared.message.NumberedFolder.{NumberedFolder}
use Rattle.told_mail.specs.Mail.{is_same, named}

abbrev pub names_in : BTreeMap (Vec ℕ Global) ℕ → List (List ℕ)
names_in lines = map (λ (v : Vec ℕ Global). v.items) (keys lines)

abbrev pub place_in : BTreeMap (Vec ℕ Global) ℕ → List ℕ → Option ℕ
place_in lines name = get_by (λ (v : Vec ℕ Global). slice_cmp nat_cmp name v.items) lines

-- none of the names is this one
abbrev pub AllOther : List ℕ → List (List ℕ) → Type 0
AllOther name [] = Unit {0}
AllOther name (q ∷ qs) = (is_same name q ≡ false) × AllOther name qs

abbrev pub AreApart : List (List ℕ) → Type 0
AreApart [] = Unit {0}
AreApart (q ∷ qs) = AllOther q qs × AreApart qs

-- no folder has one of the names
abbrev pub AllFree : List NumberedFolder → List (List ℕ) → Type 0
AllFree hs [] = Unit {0}
AllFree hs (q ∷ qs) = (named hs q ≡ None) × AllFree hs qs
