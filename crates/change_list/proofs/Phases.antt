-- Touches of one kind, of rows with different ids.
use Rattle.std.proofs.Common.{nat_cmp, rules, ◌≡◌, ◌≢◌, ℕ, List, [], ◌∷◌, ◌++◌, Bool, true, false, cond, nat_eq, map, Option, Some, None, refl, sym, ap, ◌∙◌, subst}
use Rattle.std.proofs.lemmas.Bool.{eqb-true, eq-eqb}
use Rattle.std.specs.BTreeMap.{is_at}
use Rattle.change_list.specs.History.{Touch, map_then, value_after, entries_from, entry_of, kind_of, DifferFrom}
use Rattle.change_list.specs.Advance.{row_at, AreRows}
use Rattle.change_list.specs.declared.entries.Kind.{Kind}
use Rattle.change_list.specs.declared.entries.Entry.{Entry}

-- a row is looked up by the test that touches are
pub key_is : (q k : ℕ) → is_at (nat_cmp q) k ≡ nat_eq k q
key_is q k = search rules

module _ {V : Type 0} where
  -- the touches differ from what was there, and their entries are these
  pub record Fits (was : ℕ → Option V) (ts : List (Touch V)) (es : List Entry) : Type 0 where
    pub differ : DifferFrom was ts
    pub entries : entries_from was ts ≡ es

  -- the map after touches
  abbrev pub after : (ℕ → Option V) → List (Touch V) → ℕ → Option V
  after was ts q = value_after (was q) ts q

  -- touches one after the other
  pub fits_append : (was : ℕ → Option V) (a b : List (Touch V)) (es fs : List Entry) → Fits was a es → Fits (after was a) b fs → Fits was (a ++ b) (es ++ fs)
  fits_append was [] b es fs f g = record { differ = g.differ; entries = g.entries ∙ ap (λ xs. xs ++ fs) f.entries }
  fits_append was (t ∷ a) b es fs f g =
      let rest = fits_append (map_then was t) a b (entries_from (map_then was t) a) fs (record { differ = f.differ.1; entries = refl }) g in
      record { differ = (f.differ.0, rest.differ); entries = ap (λ xs. entry_of (was t.id) t ∷ xs) rest.entries ∙ ap (λ xs. xs ++ fs) f.entries }

  -- each row's touch is of one kind, where P holds of what was there
  module _ (put : ℕ × V → Touch V) (kind : Kind) (P : Option V → V → Type 0)
      (ids : (e : ℕ × V) → (put e).id ≡ e.0)
      (facts : (o : Option V) (e : ℕ × V) → P o e.1 → (o ≢ (put e).value) × (kind_of o (put e).value ≡ kind)) where
    abbrev pub entry : ℕ × V → Entry
    entry e = record { id = (put e).id; kind = kind; counts_only = (put e).counts_only }

    pub phase : (was : ℕ → Option V) (es : List (ℕ × V)) → AreRows es → ((q : ℕ) (v : V) → row_at es q ≡ Some v → P (was q) v) → Fits was (map put es) (map entry es)
    phase was [] rows here = record { differ = tt; entries = refl }
    phase was (e ∷ es) rows here =
        let first : P (was e.0) e.1 = here e.0 e.1 (ap (λ (b : Bool). cond b (Some e.1) (row_at es e.0)) (key_is e.0 e.0 ∙ eq-eqb e.0 e.0 refl)) in
        let at : was (put e).id ≡ was e.0 = ap was (ids e) in
        let given = facts (was e.0) e first in
        let rest = phase (map_then was (put e)) es rows.1 (λ q v is.
        elim (nat_eq e.0 q) as (λ b. nat_eq e.0 q ≡ b → P (map_then was (put e) q) v) [
          | true ↦ λ same. absurd (let f : Some v ≡ None = sym is ∙ ap (row_at es) (sym (eqb-true e.0 q same)) ∙ rows.0 in cc)
          | false ↦ λ other.
              let to : was q ≡ map_then was (put e) q = sym (ap (λ (i : ℕ). cond (nat_eq i q) (put e).value (was q)) (ids e)
              ∙ ap (λ (b : Bool). cond b (put e).value (was q)) other) in
              let R : Option V → Type 0 = λ o. P o v in
              subst R to (here q v (ap (λ (b : Bool). cond b (Some e.1) (row_at es q)) (key_is q e.0 ∙ other) ∙ is))
        ] refl) in
        record {
          differ = ((λ same. given.0 (sym at ∙ same)), rest.differ);
          entries =
              ap (λ (o : Option V). record { id = (put e).id; kind = kind_of o (put e).value; counts_only = (put e).counts_only } ∷ entries_from (map_then was (put e))
              (map put es)) at
              ∙ ap (λ (k : Kind). record { id = (put e).id; kind = k; counts_only = (put e).counts_only } ∷ entries_from (map_then was (put e)) (map put es)) given.1
              ∙ ap (λ (xs : List Entry). entry e ∷ xs) rest.entries;
        }

  -- only what was there counts, however it is written
  pub fits_same : (was then : ℕ → Option V) (ts : List (Touch V)) (es : List Entry) → ((q : ℕ) → was q ≡ then q) → Fits was ts es → Fits then ts es
  fits_same was then [] es same f = record { differ = tt; entries = f.entries }
  fits_same was then (t ∷ ts) es same f =
      let rest = fits_same (map_then was t) (map_then then t) ts (entries_from (map_then was t) ts) (λ q. ap (λ (o : Option V). cond (nat_eq t.id q) t.value o) (same q))
      (record { differ = f.differ.1; entries = refl }) in
      record {
        differ = ((λ is. f.differ.0 (same t.id ∙ is)), rest.differ);
        entries = ap (λ (o : Option V). entry_of o t ∷ entries_from (map_then then t) ts) (sym (same t.id)) ∙ ap (λ (xs : List Entry). entry_of (was t.id) t ∷ xs) rest.entries
            ∙ f.entries;
      }
