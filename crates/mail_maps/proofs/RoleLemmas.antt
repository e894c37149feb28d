-- A role that no folder before took is free: folders come by their numbers.
use Rattle.std.proofs.Common.{◌≡◌, ℕ, zero, suc, ◌+◌, ◌<◌, ◌≤◌, List, [], ◌∷◌, Bool, true, false, ◌&&◌, ◌||◌, if◌then◌else◌, Option, Some, None}
use Rattle.std.proofs.Common.{refl, sym, ap, ◌∙◌, subst, arith, drop, take, add-one, ltb, ltb-true, lt-ltb}
use Rattle.std.specs.BTreeSet.{BTreeSet, contains}
use Rattle.std.specs.List.{list_any}
use Rattle.std.specs.Ordering.{nat_cmp}
use Rattle.told_folder.specs.Folders.{folder_number}
use Rattle.told_folder.specs.Keyed.{AllAbove, Ascends}
use Rattle.told_folder.specs.declared.message.Folder.{Folder}
use Rattle.told_folder.specs.declared.message.NumberedFolder.{NumberedFolder}
use Rattle.mail_maps.specs.declared.row.Role.{Role}
use Rattle.mail_maps.specs.Mailboxes.{folders_of}
use Rattle.mail_maps.specs.Roles.{role_told, role_number, same_role, is_taken, role_in}
use Rattle.mail_maps.specs.reading.TakenRoles.{number_is, claims, AreTaken, role_left}

first_is : (x held : NumberedFolder) (xs rest : List NumberedFolder) → x ∷ xs ≡ held ∷ rest → x ≡ held
first_is x held xs rest e = cc

-- ---- which roles are taken

or_false : (b : Bool) → b ≡ (b || false)
or_false true = refl
or_false false = refl

or_joined : (a b c : Bool) → (a || (b || c)) ≡ ((a || b) || c)
or_joined true b c = refl
or_joined false b c = refl

claimed_more : (q : ℕ) (hs : List NumberedFolder) (i : ℕ) (held : NumberedFolder) (rest : List NumberedFolder) → drop i hs ≡ held ∷ rest
    → list_any (claims q) (folders_of (take (suc i) hs)) ≡ (list_any (claims q) (folders_of (take i hs)) || claims q held.folder)
claimed_more q [] zero held rest is = absurd (let f : [] ≡ held ∷ rest = is in cc)
claimed_more q [] (suc i) held rest is = absurd (let f : [] ≡ held ∷ rest = is in cc)
claimed_more q (x ∷ xs) zero held rest is = sym (or_false (claims q x.folder)) ∙ ap (λ (h : NumberedFolder). claims q h.folder) (first_is x held xs rest is)
claimed_more q (x ∷ xs) (suc i) held rest is =
    ap (λ (b : Bool). claims q x.folder || b) (claimed_more q xs i held rest is)
    ∙ or_joined (claims q x.folder) (list_any (claims q) (folders_of (take i xs))) (claims q held.folder)

-- the role of one folder more is taken
pub taken_more : (hs : List NumberedFolder) (i : ℕ) (held : NumberedFolder) (rest : List NumberedFolder) (old new : BTreeSet ℕ) → drop i hs ≡ held ∷ rest
    → ((q : ℕ) → contains nat_cmp new q ≡ (contains nat_cmp old q || claims q held.folder)) → AreTaken old (folders_of (take i hs)) → AreTaken new (folders_of (take (i + 1) hs))
taken_more hs i held rest old new is made was = λ q.
    rw add-one (made q ∙ ap (λ (b : Bool). b || claims q held.folder) (was q) ∙ sym (claimed_more q hs i held rest is))

-- ---- whether the role of a folder is

abbrev test : Folder → Folder → Bool
test f g = ltb g.number f.number && same_role (role_told g) (role_told f)

not_less : (m n : ℕ) → m ≤ n → ltb n m ≡ false
not_less m n le = elim (ltb n m) as (λ (b : Bool). ltb n m ≡ b → b ≡ false) [ true ↦ λ t. absurd (let l : n < m = ltb-true _ _ t in omega (arith, l, le)) | false ↦ λ t. refl ] refl

none_later : (f : Folder) (hs : List NumberedFolder) → AllAbove folder_number f.number hs → list_any (test f) (folders_of hs) ≡ false
none_later f [] above = refl
none_later f (x ∷ hs) above =
    ap (λ (b : Bool). (b && same_role (role_told x.folder) (role_told f)) || list_any (test f) (folders_of hs))
    (not_less f.number x.folder.number (let l = above.0 in omega (arith, l)))
    ∙ none_later f hs above.1

above_found : (k i : ℕ) (hs : List NumberedFolder) (held : NumberedFolder) (rest : List NumberedFolder) → AllAbove folder_number k hs → drop i hs ≡ held ∷ rest → k < folder_number held
above_found k zero [] held rest above is = absurd (let f : [] ≡ held ∷ rest = is in cc)
above_found k (suc i) [] held rest above is = absurd (let f : [] ≡ held ∷ rest = is in cc)
above_found k zero (x ∷ hs) held rest above is = subst (λ (h : NumberedFolder). k < folder_number h) (first_is x held hs rest is) above.0
above_found k (suc i) (x ∷ hs) held rest above is = above_found k i hs held rest above.1 is

-- two roles of which the second is there
same_is : (o : Option Role) (role : Role) → same_role o (Some role) ≡ number_is (role_number role) o
same_is None role = refl
same_is (Some r) role = refl

module _ (f : Folder) (role : Role) (told : role_told f ≡ Some role) where
  earlier : (g : Folder) → g.number < f.number → test f g ≡ claims (role_number role) g
  earlier g less =
      ap (λ (b : Bool). b && same_role (role_told g) (role_told f)) (lt-ltb g.number f.number less)
      ∙ ap (same_role (role_told g)) told ∙ same_is (role_told g) role

  -- among all folders in order, those before it decide
  taken_before : (hs : List NumberedFolder) (i : ℕ) (held : NumberedFolder) (rest : List NumberedFolder) → held.folder ≡ f → Ascends folder_number hs → drop i hs ≡ held ∷ rest
      → list_any (claims (role_number role)) (folders_of (take i hs)) ≡ list_any (test f) (folders_of hs)
  taken_before [] zero held rest same up is = absurd (let w : [] ≡ held ∷ rest = is in cc)
  taken_before [] (suc i) held rest same up is = absurd (let w : [] ≡ held ∷ rest = is in cc)
  taken_before (x ∷ hs) zero held rest same up is =
      let here : x.folder ≡ f = ap (λ (h : NumberedFolder). h.folder) (first_is x held hs rest is) ∙ same in
      let number : x.folder.number ≡ f.number = ap (λ (g : Folder). g.number) here in
      let above : AllAbove folder_number f.number hs = subst (λ (k : ℕ). AllAbove folder_number k hs) number up.0 in
      sym (ap (λ (b : Bool). (b && same_role (role_told x.folder) (role_told f)) || list_any (test f) (folders_of hs))
      (not_less f.number x.folder.number (omega (arith, number)))
      ∙ none_later f hs above)
  taken_before (x ∷ hs) (suc i) held rest same up is =
      let less : x.folder.number < f.number = subst (λ (g : Folder). x.folder.number < g.number) same (above_found x.folder.number i hs held rest up.0 is) in
      ap (λ (b : Bool). claims (role_number role) x.folder || b) (taken_before hs i held rest same up.1 is)
      ∙ ap (λ (b : Bool). b || list_any (test f) (folders_of hs)) (sym (earlier x.folder less))

abbrev given : Bool → Option Role → Option Role
given taken o = if taken then None else o

none_given : (b : Bool) → None ≡ given b None
none_given true = refl
none_given false = refl

-- the role that is left to a folder after those before it is its role
pub role_known : (hs : List NumberedFolder) (i : ℕ) (held : NumberedFolder) (rest : List NumberedFolder) (taken : BTreeSet ℕ) → Ascends folder_number hs → drop i hs ≡ held ∷ rest
    → AreTaken taken (folders_of (take i hs)) → role_left taken (role_told held.folder) ≡ role_in (folders_of hs) held.folder
role_known hs i held rest taken up is are = by (role_told held.folder) refl
  where
    by : (o : Option Role) → role_told held.folder ≡ o → role_left taken o ≡ given (is_taken (folders_of hs) held.folder) (role_told held.folder)
    by None told = none_given (is_taken (folders_of hs) held.folder) ∙ ap (given (is_taken (folders_of hs) held.folder)) (sym told)
    by (Some role) told =
        ap (λ (b : Bool). given b (Some role)) (are (role_number role) ∙ taken_before held.folder role told hs i held rest refl up is)
        ∙ ap (given (is_taken (folders_of hs) held.folder)) (sym told)
