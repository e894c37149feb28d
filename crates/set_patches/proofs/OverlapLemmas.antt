-- Where no key has two slashes, one points into what another one points at exactly where what stands before its slash is a key.
use Rattle.std.proofs.Common.{◌≡◌, ℕ, Bool, true, false, List, [], ◌∷◌, ◌++◌, ◌==◌, ◌&&◌, ◌||◌, Option, Some, None, is_some, bytes_eq, nat_eq, cond, map, option_map, string_bytes, String, Global, refl, sym, ap, ◌∙◌, eq-eqb}
use Rattle.std.proofs.lemmas.Bool.{eqb-true, true≢false}
use Rattle.serde_json.specs.Find.{unescape}
use Rattle.std.specs.declared.cmp.Ordering.{Ordering}
use Rattle.std.specs.declared.cmp.Ordering.TheVariants.{Less, Equal, Greater}
use Rattle.std.specs.Cmp.Lexicographic.{slice_cmp}
use Rattle.std.specs.List.{list_any, onto_first}
use Rattle.std.specs.Ordering.{nat_cmp, match_ordering, is_eq}
use Rattle.std.proofs.lemmas.List.Splits.{slice_split-cons_yes, slice_split-cons_no}
use Rattle.std.proofs.lemmas.Map.Text.{is_eq-slice_cmp}
use Rattle.serde_json.specs.Data.{Data, Members, no_members, member}
use Rattle.serde_json.specs.Find.{get_member}
use Rattle.serde_json.specs.View.{view, members_view}
use Rattle.serde_json.specs.declared.value.Value.{Value}
use Rattle.serde_json.proofs.Views.{view-lookup}
use Rattle.std.specs.Map.{lookup}
use Rattle.std.specs.BTreeMap.{is_at}
use Rattle.set_patches.specs.Patches.{Pointer, leads_nowhere, member_keys, overlap, patch_in, pointer_at, pointer_of, points_into}
use Rattle.set_patches.specs.reading.Parts.{first_is_member, has_front}
use Rattle.set_patches.proofs.TokenLemmas.{is_slash, tokens_of}

-- ---- a key with no slash, with one, and with more

pub data Shape (key : List ℕ) : Type 0 where
  Plain : list_any is_slash key ≡ false → tokens_of key ≡ key ∷ [] → Shape key
  Once : (front rest : List ℕ) → list_any is_slash front ≡ false → list_any is_slash rest ≡ false → key ≡ front ++ 47 ∷ rest → tokens_of key ≡ front ∷ rest ∷ [] → Shape key
  More : (front next further : List ℕ) (tokens : List (List ℕ)) → tokens_of key ≡ front ∷ next ∷ further ∷ tokens → Shape key

is_47 : (c : ℕ) → (c == 47) ≡ true → c ≡ 47
is_47 c same = eqb-true c 47 same

after_slash : (c : ℕ) (key : List ℕ) → (c == 47) ≡ true → Shape key → Shape (c ∷ key)
after_slash c key slash (Plain none tokens) =
    Once [] key refl none (ap (λ d. d ∷ key) (is_47 c slash)) (slice_split-cons_yes is_slash c key slash ∙ ap (λ ts. [] ∷ ts) tokens)
after_slash c key slash (Once front rest no_front no_rest is tokens) =
    More [] front rest [] (slice_split-cons_yes is_slash c key slash ∙ ap (λ ts. [] ∷ ts) tokens)
after_slash c key slash (More front next further tokens are) =
    More [] front next (further ∷ tokens) (slice_split-cons_yes is_slash c key slash ∙ ap (λ ts. [] ∷ ts) are)

no_more : (c : ℕ) (front : List ℕ) → (c == 47) ≡ false → list_any is_slash front ≡ false → list_any is_slash (c ∷ front) ≡ false
no_more c front other none = ap (λ b. b || list_any is_slash front) other ∙ none

after_other : (c : ℕ) (key : List ℕ) → (c == 47) ≡ false → Shape key → Shape (c ∷ key)
after_other c key other (Plain none tokens) =
    Plain (no_more c key other none) (slice_split-cons_no is_slash c key other ∙ ap (onto_first c) tokens)
after_other c key other (Once front rest no_front no_rest is tokens) =
    Once (c ∷ front) rest (no_more c front other no_front) no_rest (ap (λ ds. c ∷ ds) is) (slice_split-cons_no is_slash c key other ∙ ap (onto_first c) tokens)
after_other c key other (More front next further tokens are) =
    More (c ∷ front) next further tokens (slice_split-cons_no is_slash c key other ∙ ap (onto_first c) are)

shape_as : (c : ℕ) (key : List ℕ) (slash : Bool) → (c == 47) ≡ slash → Shape key → Shape (c ∷ key)
shape_as c key true slash s = after_slash c key slash s
shape_as c key false other s = after_other c key other s

pub shape : (key : List ℕ) → Shape key
shape [] = Plain refl refl
shape (c ∷ key) = shape_as c key (c == 47) refl (shape key)

-- ---- what such a key points into

no_rest : (first second : Bool) → second ≡ false → (first && second) ≡ false
no_rest true second none = none
no_rest false second none = refl

no_first : (first second : Bool) → first ≡ false → (first && second) ≡ false
no_first first second none = ap (λ b. b && second) none

or_none : (first second : Bool) → (first || second) ≡ false → (first ≡ false) × (second ≡ false)
or_none true second none = absurd (true≢false none)
or_none false second none = (refl, none)

-- two tests of one fact are equal
same_truth : (a b : Bool) → (a ≡ true → b ≡ true) → (b ≡ true → a ≡ true) → a ≡ b
same_truth true true f g = refl
same_truth true false f g = sym (f refl)
same_truth false true f g = g refl
same_truth false false f g = refl

turned : (a b : ℕ) → nat_eq a b ≡ nat_eq b a
turned a b = same_truth (nat_eq a b) (nat_eq b a) (λ e. eq-eqb b a (sym (eqb-true a b e))) (λ e. eq-eqb a b (sym (eqb-true b a e)))

-- a key with no slash points into nothing
plain_into : (key other : List ℕ) → list_any is_slash key ≡ false → points_into key other ≡ false
plain_into [] [] none = refl
plain_into [] (o ∷ os) none = refl
plain_into (c ∷ key) [] none = no_first (nat_eq 47 c) _ (turned 47 c ∙ (or_none (c == 47) _ none).0)
plain_into (c ∷ key) (o ∷ os) none = no_rest (nat_eq o c) _ (plain_into key os (or_none (c == 47) _ none).1)

-- one with one slash points into what stands before it
once_into : (front rest other : List ℕ) → list_any is_slash front ≡ false → list_any is_slash rest ≡ false → points_into (front ++ 47 ∷ rest) other ≡ bytes_eq front other
once_into [] rest [] no_front no_rest = refl
once_into [] rest (o ∷ os) no_front none = no_rest (nat_eq o 47) _ (plain_into rest os none)
once_into (c ∷ front) rest [] no_front none = no_first (nat_eq 47 c) _ (turned 47 c ∙ (or_none (c == 47) _ no_front).0)
once_into (c ∷ front) rest (o ∷ os) no_front none =
    ap (λ b. nat_eq o c && b) (once_into front rest os (or_none (c == 47) _ no_front).1 none) ∙ ap (λ b. b && bytes_eq front os) (turned o c)

-- ---- among keys

any_same : (p q : List ℕ → Bool) (keys : List (List ℕ)) → ((key : List ℕ) → p key ≡ q key) → list_any p keys ≡ list_any q keys
any_same p q [] same = refl
any_same p q (key ∷ keys) same = ap (λ b. b || list_any p keys) (same key) ∙ ap (λ b. q key || b) (any_same p q keys same)

any_none : (p : List ℕ → Bool) (keys : List (List ℕ)) → ((key : List ℕ) → p key ≡ false) → list_any p keys ≡ false
any_none p [] none = refl
any_none p (key ∷ keys) none = ap (λ b. b || list_any p keys) (none key) ∙ any_none p keys none

found_by : (o : Ordering) (d : Data) (rest : Bool) (found : _) → is_some found ≡ rest → is_some (match_ordering o found (Some d) found) ≡ (is_eq o || rest)
found_by Less d rest found same = same
found_by Equal d rest found same = refl
found_by Greater d rest found same = same

pub member_is : (key : List ℕ) (ms : Members) → is_some (get_member key ms) ≡ list_any (bytes_eq key) (member_keys ms)
member_is key no_members = refl
member_is key (member k d ms) =
    found_by (slice_cmp nat_cmp key k) d _ (get_member key ms) (member_is key ms) ∙ ap (λ b. b || list_any (bytes_eq key) (member_keys ms)) (is_eq-slice_cmp key k)

front_as : (objects : List (List ℕ)) (ms : Members) (key : List ℕ) → Shape key → leads_nowhere objects (pointer_of key) ≡ false
    → list_any (points_into key) (member_keys ms) ≡ has_front ms key
front_as objects ms key (Plain none tokens) leads =
    any_none (points_into key) (member_keys ms) (λ other. plain_into key other none) ∙ sym (ap (first_is_member ms) tokens)
front_as objects ms key (Once front rest no_front none is tokens) leads =
    any_same (points_into key) (bytes_eq front) (member_keys ms) (λ other. ap (λ k. points_into k other) is ∙ once_into front rest other no_front none)
    ∙ sym (member_is front ms) ∙ sym (ap (first_is_member ms) tokens)
front_as objects ms key (More front next further tokens are) leads =
    absurd (true≢false (sym (ap (λ ts. leads_nowhere objects (pointer_at (map unescape ts))) are) ∙ leads))

fronts_in : (objects : List (List ℕ)) (all ms : Members) → list_any (λ (p : Pointer × Data). leads_nowhere objects p.0) (patch_in ms) ≡ false
    → list_any (λ key. list_any (points_into key) (member_keys all)) (member_keys ms) ≡ list_any (has_front all) (member_keys ms)
fronts_in objects all no_members leads = refl
fronts_in objects all (member key d ms) leads =
    let both = or_none (leads_nowhere objects (pointer_of key)) _ leads in
    ap (λ b. b || list_any (λ k. list_any (points_into k) (member_keys all)) (member_keys ms)) (front_as objects all key (shape key) both.0)
    ∙ ap (λ b. has_front all key || b) (fronts_in objects all ms both.1)

-- where no pointer leads nowhere, the keys overlap where one has its front among them
pub overlap_is : (objects : List (List ℕ)) (ms : Members) → list_any (λ (p : Pointer × Data). leads_nowhere objects p.0) (patch_in ms) ≡ false
    → overlap (member_keys ms) ≡ list_any (has_front ms) (member_keys ms)
overlap_is objects ms leads = fronts_in objects ms ms leads

some_of : (o : Option Value) → is_some o ≡ is_some (option_map view o)
some_of None = refl
some_of (Some v) = refl

first_of_more : (ms : Members) (front : List ℕ) (c : ℕ) (tokens : List (List ℕ)) → is_some (get_member front ms) ≡ first_is_member ms (front ∷ onto_first c tokens)
first_of_more ms front c [] = refl
first_of_more ms front c (t ∷ ts) = refl

is_first : (ms : Members) (front rest : List ℕ) → is_some (get_member front ms) ≡ first_is_member ms (front ∷ tokens_of rest)
is_first ms front [] = refl
is_first ms front (c ∷ rest) =
    elim (c == 47) as (λ slash. is_some (get_member front ms) ≡ first_is_member ms (front ∷ cond slash ([] ∷ tokens_of rest) (onto_first c (tokens_of rest)))) [
      | true ↦ refl
      | false ↦ first_of_more ms front c (tokens_of rest)
    ]

-- the look-up of what stands before the first slash
pub front_found : (front rest : List ℕ) (es : List (String Global × Value))
    → is_some (lookup (is_at (λ k. slice_cmp nat_cmp front (string_bytes k))) es) ≡ first_is_member (members_view es) (front ∷ tokens_of rest)
front_found front rest es = some_of (lookup (is_at (λ k. slice_cmp nat_cmp front (string_bytes k))) es) ∙ ap is_some (view-lookup front es) ∙ is_first (members_view es) front rest
