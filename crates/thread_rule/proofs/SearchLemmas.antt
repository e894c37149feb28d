-- What the search by the index finds is the Thread among all Emails.
use Rattle.std.proofs.Common.{◌≡◌, ℕ, ◌≤◌, ◌<◌, Bool, true, false, ◌||◌, ◌&&◌, map, cond, eqb, eqb-true, eq-eqb, List, [], ◌∷◌, refl, sym, ap, ◌∙◌, subst}
use Rattle.std.proofs.Common.{Option, Some, None, arith}
use Rattle.std.specs.List.{list_any, AllByRecursion}
use Rattle.std.specs.List.Sorted.{IsStrictlySortedBy}
use Rattle.std.specs.Ordering.{nat_cmp}
use Rattle.std.specs.declared.cmp.Ordering.TheVariants.{Less}
use Rattle.std.specs.BTreeMap.{is_at}
use Rattle.std.proofs.lemmas.Map.Keys.{sorted_head, sorted_tail}
use Rattle.std.proofs.lemmas.Slice.Eq.{bytes_eq-Decides}
use Rattle.text_words.specs.Octets.{SameText, is_same_text}
use Rattle.thread_rule.specs.declared.member.Member.{Member}
use Rattle.std.specs.Str.{bytes_eq}
use Rattle.std.specs.Char.{to_ascii_lowercase}
use Rattle.std.specs.declared.hash.DefaultHasher.{DefaultHasher}
use Rattle.thread_rule.specs.reading.Keys.{hasher_after, base_hasher, key_under}
use Rattle.thread_rule.specs.Ids.{ids_in}
use Rattle.thread_rule.specs.Threads.{Members, member_at, is_among, Shares, IsThreadOf, Founds, Joins, Passes}
use Rattle.thread_rule.specs.reading.Index.{has_entry, EntryLists, emails_at, has_key, keys_of, IsIndexOf, thread_if, first_thread}
use Rattle.thread_rule.proofs.IndexLemmas.{number_test, has_listed}

-- an Email of these names the id and has an equal base subject
pub record SharesBase (members : Members) (base id : List ℕ) (emails : List ℕ) (email : ℕ) (member : Member) : Type 0 where
  pub listed : list_any (is_at (nat_cmp email)) emails ≡ true
  pub there : member_at members email ≡ Some member
  pub named : is_among member.ids id ≡ true
  pub same : SameText member.base base

-- the lowest of these Emails that names the id and has an equal base subject, which is in this Thread
pub record IsLowest (members : Members) (base id : List ℕ) (emails : List ℕ) (thread : ℕ) : Type 0 where
  pub email : ℕ
  pub member : Member
  pub shares : SharesBase members base id emails email member
  pub is : thread ≡ member.thread
  pub lowest : (other : ℕ) (m : Member) → SharesBase members base id emails other m → email ≤ other

abbrev pub LacksBase : Members → List ℕ → List ℕ → List ℕ → Type 0
LacksBase members base id emails = (other : ℕ) (m : Member) → SharesBase members base id emails other m → ⊥

abbrev pub Finds : Members → List ℕ → List ℕ → List ℕ → Option ℕ → Type 0
Finds members base id emails None = LacksBase members base id emails
Finds members base id emails (Some thread) = IsLowest members base id emails thread

-- a number is listed at the front, or after it
pub listed_first : (x : ℕ) (es : List ℕ) → list_any (is_at (nat_cmp x)) (x ∷ es) ≡ true
listed_first x es = ap (λ (q : Bool). q || list_any (is_at (nat_cmp x)) es) (number_test x x ∙ eq-eqb x x refl)

or_right : (p q : Bool) → q ≡ true → (p || q) ≡ true
or_right true q e = refl
or_right false q e = e

-- a number that is listed is listed with another number in front, too
pub listed_behind : (x y : ℕ) (es : List ℕ) → list_any (is_at (nat_cmp x)) es ≡ true → list_any (is_at (nat_cmp x)) (y ∷ es) ≡ true
listed_behind x y es e = or_right (is_at (nat_cmp x) y) (list_any (is_at (nat_cmp x)) es) e

-- a listed number is the first, or listed after it
pub data Listed (x y : ℕ) (es : List ℕ) : Type 0 where
  First : x ≡ y → Listed x y es
  Behind : list_any (is_at (nat_cmp x)) es ≡ true → Listed x y es

-- a number in a list is the first, or is listed after it
pub listed_where : (x y : ℕ) (es : List ℕ) → list_any (is_at (nat_cmp x)) (y ∷ es) ≡ true → Listed x y es
listed_where x y es e = by (is_at (nat_cmp x) y) refl e
  where
    by : (q : Bool) → is_at (nat_cmp x) y ≡ q → (q || list_any (is_at (nat_cmp x)) es) ≡ true → Listed x y es
    by true k h = First (eqb-true x y (sym (number_test x y) ∙ k))
    by false k h = Behind h

-- a number that compares as less than another is below it
pub less_is : (a b : ℕ) → nat_cmp a b ≡ Less → a < b
less_is a b e = grind arith

-- what is listed after the first is above it
pub above_first : (y : ℕ) (es : List ℕ) → AllByRecursion (λ z. nat_cmp y z ≡ Less) es → (x : ℕ) → list_any (is_at (nat_cmp x)) es ≡ true → y ≤ x
above_first y [] a x e = absurd cc
above_first y (z ∷ es) a x e = by (listed_where x z es e) (above_first y es a.1 x)
  where
    by : Listed x z es → (list_any (is_at (nat_cmp x)) es ≡ true → y ≤ x) → y ≤ x
    by (First s) f = let l = less_is y z a.0 in omega arith
    by (Behind h) f = f h

-- where the test for it is true, two texts are equal but for the case of their letters
pub same_is : (s t : List ℕ) → is_same_text s t ≡ true → SameText s t
same_is s t e = (bytes_eq-Decides _ _).0 e

-- of two texts that are equal but for the case of their letters, the test for it is true
pub same_test : (s t : List ℕ) → SameText s t → is_same_text s t ≡ true
same_test s t e = (bytes_eq-Decides _ _).1 e

-- the first Email doesn't count
pub skipped : (members : Members) (base id : List ℕ) (x : ℕ) (es : List ℕ) (r : Option ℕ)
    → ((m : Member) → member_at members x ≡ Some m → is_among m.ids id ≡ true → SameText m.base base → ⊥) → Finds members base id es r → Finds members base id (x ∷ es) r
skipped members base id x es None n f = λ other m h. behind other m h (listed_where other x es h.listed)
  where
    behind : (other : ℕ) (m : Member) → SharesBase members base id (x ∷ es) other m → Listed other x es → ⊥
    behind other m h (First e) = let P : ℕ → Type 0 = λ y. member_at members y ≡ Some m in n m (subst P e h.there) h.named h.same
    behind other m h (Behind l) = f other m (record { listed = l; there = h.there; named = h.named; same = h.same })
skipped members base id x es (Some t) n f = record {
  email = f.email;
  member = f.member;
  shares = record { listed = listed_behind f.email x es f.shares.listed; there = f.shares.there; named = f.shares.named; same = f.shares.same };
  is = f.is;
  lowest = λ other m h. behind other m h (listed_where other x es h.listed);
}
  where
    behind : (other : ℕ) (m : Member) → SharesBase members base id (x ∷ es) other m → Listed other x es → f.email ≤ other
    behind other m h (First e) = let P : ℕ → Type 0 = λ y. member_at members y ≡ Some m in absurd (n m (subst P e h.there) h.named h.same)
    behind other m h (Behind l) = f.lowest other m (record { listed = l; there = h.there; named = h.named; same = h.same })

-- the first Email counts
pub counted : (members : Members) (base id : List ℕ) (x : ℕ) (es : List ℕ) (member : Member) → IsStrictlySortedBy nat_cmp (x ∷ es) → member_at members x ≡ Some member
    → is_among member.ids id ≡ true → SameText member.base base → IsLowest members base id (x ∷ es) member.thread
counted members base id x es member s e a k = record {
  email = x;
  member = member;
  shares = record { listed = listed_first x es; there = e; named = a; same = k };
  is = refl;
  lowest = λ other m h. above other (listed_where other x es h.listed);
}
  where
    above : (other : ℕ) → Listed other x es → x ≤ other
    above other (First z) = omega (arith, z)
    above other (Behind l) = above_first x es (sorted_head nat_cmp x es s) other l

-- of two tests that pass, each does, and one that fails makes them fail
both_pass : (p q : Bool) → p && q ≡ true → (p ≡ true) × (q ≡ true)
both_pass true q = λ e. (refl, e)
both_pass false q = λ e. absurd (let f : false ≡ true = e in cc)

pass_both : (p q : Bool) → p ≡ true → q ≡ true → p && q ≡ true
pass_both p q e f = ap (λ (x : Bool). x && q) e ∙ f

-- a lower Email in front gives its Thread, if it names the id and has an equal base subject, and else what was found stays
pub first_finds_more : (members : Members) (base id : List ℕ) (x : ℕ) (es : List ℕ) → IsStrictlySortedBy nat_cmp (x ∷ es) → (r : Option ℕ) → Finds members base id es r
    → Finds members base id (x ∷ es) (thread_if (member_at members x) base id r)
first_finds_more members base id x es s r more = by (member_at members x) refl
  where
    tested : (member : Member) → member_at members x ≡ Some member → (q : Bool) → is_among member.ids id && is_same_text member.base base ≡ q
        → Finds members base id (x ∷ es) (cond q (Some member.thread) r)
    tested member e true k = let parts = both_pass (is_among member.ids id) (is_same_text member.base base) k in
        counted members base id x es member s e parts.0 (same_is member.base base parts.1)
    tested member e false k = skipped members base id x es r (λ m f a h.
        let p : m ≡ member = cc in
        let P : Member → Type 0 = λ n. is_among n.ids id && is_same_text n.base base ≡ true in
        let t = subst P p (pass_both (is_among m.ids id) (is_same_text m.base base) a (same_test m.base base h)) in absurd cc) more

    by : (o : Option Member) → member_at members x ≡ o → Finds members base id (x ∷ es) (thread_if o base id r)
    by None e = skipped members base id x es r (λ m f a h. absurd cc) more
    by (Some member) e = tested member e (is_among member.ids id && is_same_text member.base base) refl

-- of ascending Emails, the lowest that names the id and has an equal base subject gives its Thread; without one, nothing is found
pub first_finds : (members : Members) (base id emails : List ℕ) → IsStrictlySortedBy nat_cmp emails → Finds members base id emails (first_thread members base id emails)
first_finds members base id [] s = λ other m h. let l = h.listed in absurd cc
first_finds members base id (x ∷ es) s = first_finds_more members base id x es s (first_thread members base id es) (first_finds members base id es (sorted_tail nat_cmp x es s))

-- an image of what is among some is among their images
among_map : (f : List ℕ → ℕ) (xs : List (List ℕ)) (x : List ℕ) → is_among xs x ≡ true → has_key (map f xs) (f x) ≡ true
among_map f [] x e = absurd (let g : false ≡ true = e in cc)
among_map f (y ∷ xs) x e = by (bytes_eq x y) refl e (among_map f xs x)
  where
    by : (q : Bool) → bytes_eq x y ≡ q → q || is_among xs x ≡ true → (is_among xs x ≡ true → has_key (map f xs) (f x) ≡ true)
        → eqb (f x) (f y) || has_key (map f xs) (f x) ≡ true
    by true k h more = ap (λ (z : Bool). z || has_key (map f xs) (f x)) (eq-eqb (f x) (f y) (ap f ((bytes_eq-Decides x y).0 k)))
    by false k h more = or_right (eqb (f x) (f y)) (has_key (map f xs) (f x)) (more h)

-- an id that an Email names gives one of its keys, by any base subject equal to its own
key_there : (secret : ℕ) (member : Member) (base id : List ℕ) → is_among member.ids id ≡ true → SameText member.base base
    → has_key (keys_of secret (Some member)) (key_under (base_hasher secret base) id) ≡ true
key_there secret member base id named same =
    let hasher : base_hasher secret member.base ≡ base_hasher secret base = ap (hasher_after secret) same in
    let P : DefaultHasher → Type 0 = λ h. has_key (keys_of secret (Some member)) (key_under h id) ≡ true in
    subst P hasher (among_map (key_under (base_hasher secret member.base)) member.ids id named)

-- the key of the id and the base subject
abbrev pub key_of : ℕ → List ℕ → List ℕ → ℕ
key_of secret base id = key_under (base_hasher secret base) id

-- the index has each Email at each of its keys, and maybe more
abbrev pub Covers : ℕ → EntryLists → Members → Type 0
Covers secret index members = (key email : ℕ) → has_key (keys_of secret (member_at members email)) key ≡ true → has_entry index key email ≡ true

-- an Email that names the id and has an equal base subject is listed in the index at their key
pub shares_listed : (secret : ℕ) (index : EntryLists) (members : Members) (base id : List ℕ) (email : ℕ) (member : Member) → Covers secret index members
    → Shares members base id email member → SharesBase members base id (emails_at index (key_of secret base id)) email member
shares_listed secret index members base id email member i s = record {
  listed = sym (has_listed index (key_of secret base id) email)
      ∙ i (key_of secret base id) email
      (ap (λ (o : Option Member). has_key (keys_of secret o) (key_of secret base id)) s.there ∙ key_there secret member base id s.named s.same);
  there = s.there;
  named = s.named;
  same = s.same;
}

-- an Email among these that names the id and has an equal base subject is such an Email among all
pub listed_shares : (members : Members) (base id emails : List ℕ) (email : ℕ) (member : Member) → SharesBase members base id emails email member → Shares members base id email member
listed_shares members base id emails email member s = record { there = s.there; named = s.named; same = s.same }

-- the first id decides
pub joins : (secret : ℕ) (index : EntryLists) (members : Members) (base : List ℕ) (number : ℕ) (id : List ℕ) (more : List (List ℕ)) (thread : ℕ) → Covers secret index members
    → IsStrictlySortedBy nat_cmp (emails_at index (key_of secret base id))
    → Some thread ≡ first_thread members base id (emails_at index (key_of secret base id)) → IsThreadOf members base number (id ∷ more) thread
joins secret index members base number id more thread i s e =
    let at = emails_at index (key_of secret base id) in
    let F : Option ℕ → Type 0 = λ o. Finds members base id at o in
    let l : IsLowest members base id at thread = subst F (sym e) (first_finds members base id at s) in
    let P : ℕ → Type 0 = λ t. IsThreadOf members base number (id ∷ more) t in
    subst P (sym l.is) (Joins id more l.email l.member (listed_shares members base id at l.email l.member l.shares)
    (λ other m h. l.lowest other m (shares_listed secret index members base id other m i h)))

-- the first id decides nothing
pub passes : (secret : ℕ) (index : EntryLists) (members : Members) (base : List ℕ) (number : ℕ) (id : List ℕ) (more : List (List ℕ)) (thread : ℕ) → Covers secret index members
    → IsStrictlySortedBy nat_cmp (emails_at index (key_of secret base id))
    → None ≡ first_thread members base id (emails_at index (key_of secret base id)) → IsThreadOf members base number more thread → IsThreadOf members base number (id ∷ more) thread
passes secret index members base number id more thread i s e t =
    let at = emails_at index (key_of secret base id) in
    let F : Option ℕ → Type 0 = λ o. Finds members base id at o in
    let l : LacksBase members base id at = subst F (sym e) (first_finds members base id at s) in
    Passes id more thread (λ other m h. l other m (shares_listed secret index members base id other m i h)) t

-- an Email has one Thread
pub one_thread : (members : Members) (base : List ℕ) (number : ℕ) (ids : List (List ℕ)) (t u : ℕ) → IsThreadOf members base number ids t → IsThreadOf members base number ids u
    → t ≡ u
one_thread members base number _ _ _ Founds Founds = refl
one_thread members base number _ _ _ (Joins id ids x m s l) (Joins _ _ y n r k) =
    let same : x ≡ y = let a = l y n r in let b = k x m s in omega arith in
    let P : ℕ → Type 0 = λ e. member_at members e ≡ Some m in
    let there = subst P same s.there in
    let other = r.there in
    let member : m ≡ n = cc in
    ap (λ (v : Member). v.thread) member
one_thread members base number _ _ _ (Joins id ids x m s l) (Passes _ _ u n h) = absurd (n x m s)
one_thread members base number _ _ _ (Passes id ids t n h) (Joins _ _ y m r k) = absurd (n y m r)
one_thread members base number _ t u (Passes id ids _ n h) (Passes _ _ _ m k) = one_thread members base number ids t u h k
