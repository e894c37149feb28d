-- Rows that are kept of others.
use Rattle.std.proofs.Common.{◌≡◌, ◌↔◌, inl, inr, ℕ, ◌+◌, ◌<◌, List, [], ◌∷◌, ◌++◌, length, get_or, take, map, Contains, Bool, true, false, IsTrue, if◌then◌else◌}
use Rattle.std.proofs.Common.{nat_cmp, Less, refl, sym, ap, subst, ◌∙◌, append_assoc, append-nil}
use Rattle.std.proofs.lemmas.List.{map_push, take_more}
use Rattle.std.specs.List.{AllByRecursion}
use Rattle.std.specs.List.Sorted.{IsStrictlySortedBy}
use Rattle.served_maps.specs.Past.{served}
use Rattle.query_lists.specs.Ordered.{numbers_of}
use Rattle.query_lists.proofs.MemberLemmas.{IsMember, has_from, contains_from}
use Rattle.query_core.specs.reading.Kept.{Keeps, KeepsNone, KeepsOne, LeavesOne}

module _ {V : Type 0} (P : ℕ × V → Type 0) where
  -- one row more, which is kept, and one which isn't
  pub keeps_more : (all kept : List (ℕ × V)) (e : ℕ × V) → P e → Keeps P all kept → Keeps P (all ++ e ∷ []) (kept ++ e ∷ [])
  keeps_more _ _ e p KeepsNone = KeepsOne e [] [] p KeepsNone
  keeps_more _ _ e p (KeepsOne d all kept q k) = KeepsOne d (all ++ e ∷ []) (kept ++ e ∷ []) q (keeps_more all kept e p k)
  keeps_more _ _ e p (LeavesOne d all kept non k) = LeavesOne d (all ++ e ∷ []) (kept ++ e ∷ []) non (keeps_more all kept e p k)

  pub leaves_more : (all kept : List (ℕ × V)) (e : ℕ × V) → (¬ P e) → Keeps P all kept → Keeps P (all ++ e ∷ []) kept
  leaves_more _ _ e non KeepsNone = LeavesOne e [] [] non KeepsNone
  leaves_more _ _ e non (KeepsOne d all kept q k) = KeepsOne d (all ++ e ∷ []) kept q (leaves_more all kept e non k)
  leaves_more _ _ e non (LeavesOne d all kept other k) = LeavesOne d (all ++ e ∷ []) kept other (leaves_more all kept e non k)

  keeps_has : (all kept : List (ℕ × V)) (x : ℕ × V) → Keeps P all kept → IsMember x kept → IsMember x all × P x
  keeps_has _ _ x KeepsNone h = absurd h
  keeps_has _ _ x (KeepsOne e all kept p k) (inl is) = (inl is, subst P is p)
  keeps_has _ _ x (KeepsOne e all kept p k) (inr h) = let more = keeps_has all kept x k h in (inr more.0, more.1)
  keeps_has _ _ x (LeavesOne e all kept non k) h = let more = keeps_has all kept x k h in (inr more.0, more.1)

  keeps_back : (all kept : List (ℕ × V)) (x : ℕ × V) → Keeps P all kept → IsMember x all → P x → IsMember x kept
  keeps_back _ _ x KeepsNone h p = absurd h
  keeps_back _ _ x (KeepsOne e all kept q k) (inl is) p = inl is
  keeps_back _ _ x (KeepsOne e all kept q k) (inr h) p = inr (keeps_back all kept x k h p)
  keeps_back _ _ x (LeavesOne e all kept non k) (inl is) p = absurd (non (subst P (sym is) p))
  keeps_back _ _ x (LeavesOne e all kept non k) (inr h) p = keeps_back all kept x k h p

  -- exactly those of which P holds are left
  pub keeps_members : (all kept : List (ℕ × V)) (x : ℕ × V) → Keeps P all kept → Contains kept x ↔ (Contains all x × P x)
  keeps_members all kept x k = (
    λ h. let both = keeps_has all kept x k (has_from kept x h) in (contains_from all x both.0, both.1),
    λ h. contains_from kept x (keeps_back all kept x k (has_from all x h.0) h.1),
  )

  keeps_each : (Q : ℕ → Type 0) (all kept : List (ℕ × V)) → Keeps P all kept → AllByRecursion Q (numbers_of all) → AllByRecursion Q (numbers_of kept)
  keeps_each Q _ _ KeepsNone h = h
  keeps_each Q _ _ (KeepsOne e all kept p k) h = (h.0, keeps_each Q all kept k h.1)
  keeps_each Q _ _ (LeavesOne e all kept non k) h = keeps_each Q all kept k h.1

  -- and they stand by number as before
  pub keeps_order : (all kept : List (ℕ × V)) → Keeps P all kept → IsStrictlySortedBy nat_cmp (numbers_of all) → IsStrictlySortedBy nat_cmp (numbers_of kept)
  unfolding IsStrictlySortedBy
  keeps_order _ _ KeepsNone up = up
  keeps_order _ _ (KeepsOne e all kept p k) up = (keeps_each (λ n. nat_cmp e.0 n ≡ Less) all kept k up.0, keeps_order all kept k up.1)
  keeps_order _ _ (LeavesOne e all kept non k) up = keeps_order all kept k up.1

-- what is kept of the rows so far, and one row more
pub kept_step : {V X : Type 0} (P : ℕ × V → Type 0) (f : X → ℕ × V) (all : List (ℕ × V)) (kept new : List X) (x : X) (taken : Bool)
    → IsTrue taken ↔ P (f x) → new ≡ (if taken then kept ++ x ∷ [] else kept) → Keeps P all (map f kept) → Keeps P (all ++ f x ∷ []) (map f new)
kept_step {V} P f all kept new x true same is keeps =
    subst (λ (rows : List (ℕ × V)). Keeps P (all ++ f x ∷ []) rows) (sym (ap (map f) is ∙ map_push f kept x)) (keeps_more P all (map f kept) (f x) (same.0 refl) keeps)
kept_step {X = X} P f all kept new x false same is keeps =
    subst (λ (rows : List X). Keeps P (all ++ f x ∷ []) (map f rows)) (sym is) (leaves_more P all (map f kept) (f x) (λ p. let e : false ≡ true = same.1 p in cc) keeps)

-- the same in a list of which the rows so far are the front
pub kept_next : {V X : Type 0} (P : ℕ × V → Type 0) (f : X → ℕ × V) (rows : List X) (i : ℕ) (kept new : List X) (x : X) (taken : Bool) → i < length rows → x ≡ get_or rows i x
    → IsTrue taken ↔ P (f x) → new ≡ (if taken then kept ++ x ∷ [] else kept) → Keeps P (map f (take i rows)) (map f kept) → Keeps P (map f (take (i + 1) rows)) (map f new)
kept_next {V} P f rows i kept new x taken within here same is keeps =
    subst (λ (all : List (ℕ × V)). Keeps P all (map f new))
    (sym (ap (map f) (take_more rows i x within ∙ ap (λ y. take i rows ++ y ∷ []) (sym here)) ∙ map_push f (take i rows) x))
    (kept_step P f (map f (take i rows)) kept new x taken same is keeps)

-- nothing is kept of nothing
pub keeps_none : {V X : Type 0} (P : ℕ × V → Type 0) (f : X → ℕ × V) (rows : List X) → rows ≡ [] → Keeps P [] (map f rows)
keeps_none {X = X} P f rows none = subst (λ (xs : List X). Keeps P [] (map f xs)) (sym none) KeepsNone

-- what is kept where another property holds of the same rows
pub keeps_same : {V : Type 0} (P Q : ℕ × V → Type 0) (all kept : List (ℕ × V)) → ((e : ℕ × V) → P e ↔ Q e) → Keeps P all kept → Keeps Q all kept
keeps_same P Q _ _ same KeepsNone = KeepsNone
keeps_same P Q _ _ same (KeepsOne e all kept p k) = KeepsOne e all kept ((same e).0 p) (keeps_same P Q all kept same k)
keeps_same P Q _ _ same (LeavesOne e all kept non k) = LeavesOne e all kept (λ q. non ((same e).1 q)) (keeps_same P Q all kept same k)

-- ---- rows of a map that is walked

module _ {R V : Type 0} (P : ℕ × V → Type 0) (serve : R → V) where
  -- what is kept so far goes before whatever is kept of the rows that are left
  abbrev pub KeepsOnward : List (ℕ × R) → List (ℕ × R) → List (ℕ × V) → Type 0
  KeepsOnward all left kept = (rest : List (ℕ × V)) → Keeps P (served serve left) rest → Keeps P (served serve all) (kept ++ rest)

  pub onward_begins : (left all : List (ℕ × R)) (kept : List (ℕ × V)) → left ≡ all → kept ≡ [] → KeepsOnward all left kept
  onward_begins left all kept same none = λ rest k.
      subst (λ (ks : List (ℕ × V)). Keeps P (served serve all) (ks ++ rest)) (sym none) (subst (λ (es : List (ℕ × R)). Keeps P (served serve es) rest) same k)

  pub onward_kept : (e : ℕ × R) (left before all : List (ℕ × R)) (kept : List (ℕ × V)) → before ≡ e ∷ left → P (e.0, serve e.1)
      → KeepsOnward all before kept → KeepsOnward all left (kept ++ (e.0, serve e.1) ∷ [])
  onward_kept e left before all kept next p so_far = λ rest k.
      subst (Keeps P (served serve all)) (sym (append_assoc kept ((e.0, serve e.1) ∷ []) rest))
      (so_far ((e.0, serve e.1) ∷ rest)
      (subst (λ (es : List (ℕ × R)). Keeps P (served serve es) ((e.0, serve e.1) ∷ rest)) (sym next) (KeepsOne (e.0, serve e.1) (served serve left) rest p k)))

  pub onward_left : (e : ℕ × R) (left before all : List (ℕ × R)) (kept : List (ℕ × V)) → before ≡ e ∷ left → (¬ P (e.0, serve e.1))
      → KeepsOnward all before kept → KeepsOnward all left kept
  onward_left e left before all kept next non so_far = λ rest k.
      so_far rest (subst (λ (es : List (ℕ × R)). Keeps P (served serve es) rest) (sym next) (LeavesOne (e.0, serve e.1) (served serve left) rest non k))

  pub onward_ends : (left all : List (ℕ × R)) (kept : List (ℕ × V)) → left ≡ [] → KeepsOnward all left kept → Keeps P (served serve all) kept
  onward_ends left all kept none so_far =
      subst (Keeps P (served serve all)) (append-nil kept) (so_far [] (subst (λ (es : List (ℕ × R)). Keeps P (served serve es) []) (sym none) KeepsNone))
