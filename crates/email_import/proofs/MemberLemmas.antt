-- The first of an object's members that isn't right.
use Rattle.std.proofs.Common.{◌≡◌, ℕ, Bool, true, false, List, [], ◌∷◌, ◌++◌, Option, Some, None, String, Global, Ordering, Less, Equal, Greater, string_bytes, nat_cmp, refl, sym, ap, ◌∙◌, subst, append_assoc}
use Rattle.std.specs.Cmp.Lexicographic.{slice_cmp}
use Rattle.std.specs.List.{AllByRecursion}
use Rattle.std.specs.List.Sorted.{IsStrictlySortedBy}
use Rattle.std.specs.Map.{keys_of}
use Rattle.std.specs.Ordering.{match_ordering, ordering_reverse}
use Rattle.std.specs.String.{string_cmp}
use Rattle.std.proofs.lemmas.Cmp.{nat_list_cmp_total, tied_itself}
use Rattle.std.proofs.lemmas.Map.Lookups.{exact_bytes}
use Rattle.serde_json.specs.Data.{Data}
use Rattle.serde_json.specs.Find.{get_member}
use Rattle.serde_json.specs.View.{view, members_view}
use Rattle.serde_json.proofs.Views.{Entry}
use Rattle.set_given.specs.Given.{Given}
use Rattle.email_import.specs.Asked.{AreNone, IsFirst, IsWrongMember, is_import_value}

-- each of them is right
abbrev pub AllRight : (List ℕ → Data → Type 0) → List Entry → Type 0
AllRight Right [] = Unit {0}
AllRight Right (e ∷ es) = Right (string_bytes e.0) (view e.1) × AllRight Right es

-- of these, those before the ones that are left are right
pub record RightBefore (Right : List ℕ → Data → Type 0) (whole left : List Entry) : Type 0 where
  pub done : List Entry
  pub whole_is : whole ≡ done ++ left
  pub right : AllRight Right done

pub right_more : (Right : List ℕ → Data → Type 0) (done : List Entry) (e : Entry) → AllRight Right done → Right (string_bytes e.0) (view e.1) → AllRight Right (done ++ e ∷ [])
right_more Right [] e a is = (is, tt)
right_more Right (x ∷ done) e a is = (a.0, right_more Right done e a.1 is)

pub before_more : (Right : List ℕ → Data → Type 0) (whole : List Entry) (e : Entry) (left : List Entry) → RightBefore Right whole (e ∷ left) → Right (string_bytes e.0) (view e.1)
    → RightBefore Right whole left
before_more Right whole e left b is = record {
  done = b.done ++ e ∷ [];
  whole_is = b.whole_is ∙ sym (append_assoc b.done (e ∷ []) left);
  right = right_more Right b.done e b.right is;
}

-- ---- what is found among members

found_at : (key : List ℕ) (e : Entry) (rest : Option Data) → slice_cmp nat_cmp key (string_bytes e.0) ≡ Equal
    → match_ordering (slice_cmp nat_cmp key (string_bytes e.0)) rest (Some (view e.1)) rest ≡ Some (view e.1)
found_at key e rest is = ap (λ (o : Ordering). match_ordering o rest (Some (view e.1)) rest) is

-- a member of those that are right is right
pub right_at : (Right : List ℕ → Data → Type 0) (es : List Entry) → AllRight Right es → (key : List ℕ) (d : Data) → get_member key (members_view es) ≡ Some d → Right key d
right_at Right [] a key d is = absurd (cc)
right_at Right (e ∷ es) a key d is = by (slice_cmp nat_cmp key (string_bytes e.0)) refl (right_at Right es a.1 key d)
  where
    rest : Option Data
    rest = get_member key (members_view es)

    at : (o : Ordering) → slice_cmp nat_cmp key (string_bytes e.0) ≡ o → match_ordering o rest (Some (view e.1)) rest ≡ Some d
    at o same = ap (λ (p : Ordering). match_ordering p rest (Some (view e.1)) rest) (sym same) ∙ is

    by : (o : Ordering) → slice_cmp nat_cmp key (string_bytes e.0) ≡ o → (rest ≡ Some d → Right key d) → Right key d
    by Less same later = later (at Less same)
    by Greater same later = later (at Greater same)
    by Equal same later =
        let found : Some (view e.1) ≡ Some d = at Equal same in
        let value : view e.1 ≡ d = cc in
        let name : string_bytes e.0 ≡ key = sym (exact_bytes key (string_bytes e.0) same) in
        subst (λ (k : List ℕ). Right k d) name (subst (λ (v : Data). Right (string_bytes e.0) v) value a.0)

right_still : (Right : List ℕ → Data → Type 0) (done : List Entry) → AllRight Right done → AllRight Right (done ++ [])
right_still Right [] a = tt
right_still Right (x ∷ done) a = (a.0, right_still Right done a.1)

-- each member is right where all are
pub all_right : (Right : List ℕ → Data → Type 0) (whole : List Entry) → RightBefore Right whole [] → (key : List ℕ) (d : Data) → get_member key (members_view whole) ≡ Some d → Right key d
all_right Right whole b key d is =
    let found : get_member key (members_view (b.done ++ [])) ≡ Some d = ap (λ (es : List Entry). get_member key (members_view es)) (sym b.whole_is) ∙ is in
    right_at Right (b.done ++ []) (right_still Right b.done b.right) key d found

-- ---- members in order

below_middle : (first : Entry) (es : List Entry) (e : Entry) (more : List Entry) → AllByRecursion (λ (y : String Global). string_cmp first.0 y ≡ Less) (keys_of (es ++ e ∷ more))
    → string_cmp first.0 e.0 ≡ Less
below_middle first [] e more h = h.0
below_middle first (x ∷ es) e more h = below_middle first es e more h.1

turned : (a b : List ℕ) → slice_cmp nat_cmp b a ≡ Less → slice_cmp nat_cmp a b ≡ Greater
turned a b is = nat_list_cmp_total.antisymm a b ∙ ap ordering_reverse is

turned_back : (a b : List ℕ) → slice_cmp nat_cmp b a ≡ Greater → slice_cmp nat_cmp a b ≡ Less
turned_back a b is = nat_list_cmp_total.antisymm a b ∙ ap ordering_reverse is

-- the member itself is found
there : (done : List Entry) (e : Entry) (more : List Entry) → IsStrictlySortedBy string_cmp (keys_of (done ++ e ∷ more))
    → get_member (string_bytes e.0) (members_view (done ++ e ∷ more)) ≡ Some (view e.1)
unfolding IsStrictlySortedBy
there [] e more h = found_at (string_bytes e.0) e (get_member (string_bytes e.0) (members_view more)) (tied_itself nat_list_cmp_total (string_bytes e.0))
there (x ∷ done) e more h =
    let rest : Option Data = get_member (string_bytes e.0) (members_view (done ++ e ∷ more)) in
    ap (λ (o : Ordering). match_ordering o rest (Some (view x.1)) rest) (turned (string_bytes e.0) (string_bytes x.0) (below_middle x done e more h.0)) ∙ there done e more h.1

-- a key below those of the members is none of theirs
none_below : (key : List ℕ) (first : List ℕ) (es : List Entry) → slice_cmp nat_cmp key first ≡ Less → AllByRecursion (λ (y : String Global). slice_cmp nat_cmp first (string_bytes y) ≡ Less) (keys_of es)
    → get_member key (members_view es) ≡ None
none_below key first [] low h = refl
none_below key first (e ∷ es) low h =
    let rest : Option Data = get_member key (members_view es) in
    ap (λ (o : Ordering). match_ordering o rest (Some (view e.1)) rest) (nat_list_cmp_total.trans key first (string_bytes e.0) low h.0) ∙ none_below key first es low h.1

-- a member with a smaller key stands before
before : (done : List Entry) (e : Entry) (more : List Entry) → IsStrictlySortedBy string_cmp (keys_of (done ++ e ∷ more)) → (key : List ℕ) (d : Data)
    → slice_cmp nat_cmp (string_bytes e.0) key ≡ Greater → get_member key (members_view (done ++ e ∷ more)) ≡ Some d → get_member key (members_view done) ≡ Some d
unfolding IsStrictlySortedBy
before [] e more h key d low is =
    let rest : Option Data = get_member key (members_view more) in
    let less = turned_back key (string_bytes e.0) low in
    let none : rest ≡ None = none_below key (string_bytes e.0) more less h.0 in
    let found : rest ≡ Some d = ap (λ (o : Ordering). match_ordering o rest (Some (view e.1)) rest) (sym less) ∙ is in
    sym none ∙ found
before (x ∷ done) e more h key d low is = by (slice_cmp nat_cmp key (string_bytes x.0)) refl (before done e more h.1 key d low)
  where
    long : Option Data
    long = get_member key (members_view (done ++ e ∷ more))

    short : Option Data
    short = get_member key (members_view done)

    at : (o : Ordering) → slice_cmp nat_cmp key (string_bytes x.0) ≡ o → match_ordering o long (Some (view x.1)) long ≡ Some d
    at o same = ap (λ (p : Ordering). match_ordering p long (Some (view x.1)) long) (sym same) ∙ is

    put : (o : Ordering) → slice_cmp nat_cmp key (string_bytes x.0) ≡ o → match_ordering o short (Some (view x.1)) short ≡ Some d
        → match_ordering (slice_cmp nat_cmp key (string_bytes x.0)) short (Some (view x.1)) short ≡ Some d
    put o same here = ap (λ (p : Ordering). match_ordering p short (Some (view x.1)) short) same ∙ here

    by : (o : Ordering) → slice_cmp nat_cmp key (string_bytes x.0) ≡ o → (long ≡ Some d → short ≡ Some d)
        → match_ordering (slice_cmp nat_cmp key (string_bytes x.0)) short (Some (view x.1)) short ≡ Some d
    by Less same later = put Less same (later (at Less same))
    by Greater same later = put Greater same (later (at Greater same))
    by Equal same later = put Equal same (at Equal same)

-- The first that isn't right: it is a member, and no member with a smaller key is wrong.
pub record IsFirstWrong (Right : List ℕ → Data → Type 0) (whole : List Entry) (e : Entry) : Type 0 where
  pub here : get_member (string_bytes e.0) (members_view whole) ≡ Some (view e.1)
  pub earlier : (other : List ℕ) (d : Data) → get_member other (members_view whole) ≡ Some d → slice_cmp nat_cmp (string_bytes e.0) other ≡ Greater → Right other d

pub first_wrong : (Right : List ℕ → Data → Type 0) (whole : List Entry) (e : Entry) (left : List Entry) → IsStrictlySortedBy string_cmp (keys_of whole)
    → RightBefore Right whole (e ∷ left) → IsFirstWrong Right whole e
first_wrong Right whole e left sorted b =
    let ordered = subst (λ (es : List Entry). IsStrictlySortedBy string_cmp (keys_of es)) b.whole_is sorted in
    let members : members_view whole ≡ members_view (b.done ++ e ∷ left) = ap members_view b.whole_is in
    record {
      here = ap (get_member (string_bytes e.0)) members ∙ there b.done e left ordered;
      earlier = λ other d is low.
          right_at Right b.done b.right other d (before b.done e left ordered other d low (ap (get_member other) (sym members) ∙ is));
    }

-- ---- the members of an import

module _ (g : Given) (whole : List Entry) where
  abbrev pub Right : List ℕ → Data → Type 0
  Right k d = is_import_value g k d ≡ true

  right_or_wrong : (b : Bool) → b ≡ true → b ≡ false → ⊥
  right_or_wrong b right wrong = let never : true ≡ false = sym right ∙ wrong in cc

  pub none_wrong : RightBefore Right whole [] → AreNone (IsWrongMember g (members_view whole))
  none_wrong b key w = right_or_wrong (is_import_value g key w.value) (all_right Right whole b key w.value w.there) w.wrong

  pub first_wrong_member : (e : Entry) (left : List Entry) → IsStrictlySortedBy string_cmp (keys_of whole) → RightBefore Right whole (e ∷ left)
      → is_import_value g (string_bytes e.0) (view e.1) ≡ false → IsFirst (IsWrongMember g (members_view whole)) (string_bytes e.0)
  first_wrong_member e left sorted b isnt =
      let f = first_wrong Right whole e left sorted b in
      record {
        is = record { value = view e.1; there = f.here; wrong = isnt };
        first = λ other w low. right_or_wrong (is_import_value g other w.value) (f.earlier other w.value w.there low) w.wrong;
      }
