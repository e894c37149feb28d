-- What an answer tells of the maps at both places.
use Rattle.std.proofs.Common.{◌≡◌, ◌≢◌, ◌↔◌, ℕ, ◌≤◌, List, [], ◌∷◌, Bool, true, false, IsTrue, map, length, subst, All, Contains, Option, Some, None, refl, sym, ap, ◌∙◌, is_some}
use Rattle.std.proofs.lemmas.List.Elements.{All-nil, All-cons, All-head, All-tail}
use Rattle.change_list.specs.Touches.{there_at, between, touches}
use Rattle.change_list.specs.Changes.{IsChanges, IsCreated, IsUpdated, IsDestroyed}
use Rattle.change_list.specs.History.{Touch, IsHistory, IsTouched, last_place, map_at, entries_of}
use Rattle.change_list.specs.Copy.{TellsMaps, TouchedTellsMaps}
use Rattle.change_list.specs.TouchedIds.{AreTouched}
use Rattle.change_list.specs.declared.answer.Changes.{Changes}
use Rattle.change_list.proofs.HistoryLaws.{length-entries_from, some_is_not_none, not_none_is_some, none_from, there_at-entries_of, touched_differs, differs_touched}
use Rattle.change_list.proofs.HistoryLaws.{map_at_untouched}

-- what all elements are, by what each of them is
all_so : {X : Type 0} (P Q : X → Type 0) (xs : List X) → ((x : X) → P x → Q x) → All P xs → All Q xs
all_so P Q [] so all = All-nil Q
all_so P Q (x ∷ xs) so all = All-cons Q x xs (so x (All-head P x xs all)) (all_so P Q xs so (All-tail P x xs all))

-- a flag that isn't true is false
false_unless : (b : Bool) → ¬ (b ≡ true) → b ≡ false
false_unless true d = absurd (d refl)
false_unless false d = refl

module _ {V : Type 0} where
  -- at one id that no list has: a and b are its values at the two places, t whether it is touched
  as_it_was_at : (a b : Option V) (t : Bool) → (a ≡ None → b ≢ None → ⊥) → (a ≢ None → b ≡ None → ⊥) → (a ≢ None → b ≢ None → t ≡ true → ⊥) → (t ≡ false → a ≡ b) → b ≡ a
  as_it_was_at None None t c d u k = refl
  as_it_was_at None (Some v) t c d u k = absurd (c refl (λ e. cc))
  as_it_was_at (Some v) None t c d u k = absurd (d (λ e. cc) refl)
  as_it_was_at (Some v) (Some w) true c d u k = absurd (u (λ e. cc) (λ e. cc) refl)
  as_it_was_at (Some v) (Some w) false c d u k = sym (k refl)

  -- an answer tells of the maps at its two places
  pub tells_maps : (h : List (Touch V)) (s : ℕ) (max : Option ℕ) (c : Changes) → IsHistory h → IsChanges (entries_of h) s max c → TellsMaps h s c
  tells_maps h s max c history is =
      let k = c.to in
      let there = there_at-entries_of h in
      let created : (q : ℕ) → Contains c.created q ↔ ((map_at h s q ≡ None) × (map_at h k q ≢ None)) = λ q. (
        (λ m. let p : IsCreated (entries_of h) s k q = (is.created.members q).0 m in (none_from _ (sym (there s q) ∙ p.0), some_is_not_none _ (sym (there k q) ∙ p.1))),
        (λ p. (is.created.members q).1 (there s q ∙ ap is_some p.0, there k q ∙ not_none_is_some _ p.1)),
      ) in
      let destroyed : (q : ℕ) → Contains c.destroyed q ↔ ((map_at h s q ≢ None) × (map_at h k q ≡ None)) = λ q. (
        (λ m. let p : IsDestroyed (entries_of h) s k q = (is.destroyed.members q).0 m in (some_is_not_none _ (sym (there s q) ∙ p.0), none_from _ (sym (there k q) ∙ p.1))),
        (λ p. (is.destroyed.members q).1 (there s q ∙ not_none_is_some _ p.0, there k q ∙ ap is_some p.1)),
      ) in
      let updated : (q : ℕ) → Contains c.updated q ↔ ((map_at h s q ≢ None) × (map_at h k q ≢ None) × IsTouched h s k q) = λ q. (
        (λ m. let p : IsUpdated (entries_of h) s k q = (is.updated.members q).0 m in
            (some_is_not_none _ (sym (there s q) ∙ p.1), some_is_not_none _ (sym (there k q) ∙ p.2), touched_differs h history s k q p.0)),
        (λ p. (is.updated.members q).1 (differs_touched h s k q p.2, there s q ∙ not_none_is_some _ p.0, there k q ∙ not_none_is_some _ p.1)),
      ) in
      record {
        created = created;
        destroyed = destroyed;
        updated = updated;
        as_it_was = λ q c' u' d'. as_it_was_at (map_at h s q) (map_at h k q) (touches (between (entries_of h) s k) q)
            (λ e f. c' ((created q).1 (e, f))) (λ e f. d' ((destroyed q).1 (e, f)))
            (λ e f t. u' ((updated q).1 (e, f, touched_differs h history s k q t)))
            (λ t. map_at_untouched h s k q is.reaches.after t);
      }

  -- a flag that says whether a value is there says whether it is another than none
  is_there : (o : Option V) (b : Bool) → b ≡ is_some o → IsTrue b ↔ (o ≢ None)
  is_there None true e = absurd (let f : true ≡ false = e in cc)
  is_there None false e = ((λ t. absurd (let f : false ≡ true = t in cc)), (λ d. absurd (d refl)))
  is_there (Some v) true e = ((λ t. some_is_not_none (Some v) refl), (λ d. refl))
  is_there (Some v) false e = absurd (let f : false ≡ true = e in cc)

  -- what was touched after a place tells of the maps there and now
  pub touched_tells : (h : List (Touch V)) (s : ℕ) (xs : List (ℕ × Bool)) → IsHistory h → s ≤ last_place h → AreTouched (entries_of h) s xs → TouchedTellsMaps h s xs
  touched_tells h s xs history within are =
      let n = length h in
      let listed : List ℕ = map (λ (x : ℕ × Bool). x.0) xs in
      let ids : (q : ℕ) → Contains listed q ↔ (touches (between (entries_of h) s n) q ≡ true) =
      λ q. subst (λ (k : ℕ). Contains listed q ↔ (touches (between (entries_of h) s k) q ≡ true)) (length-entries_from (λ _. None) h) (are.ids.members q) in
      record {
        listed = λ q. ((λ m. touched_differs h history s n q ((ids q).0 m)), (λ t. (ids q).1 (differs_touched h s n q t)));
        presence = all_so (λ (x : ℕ × Bool). x.1 ≡ there_at (entries_of h) s x.0) (λ (x : ℕ × Bool). IsTrue x.1 ↔ (map_at h s x.0 ≢ None)) xs
            (λ x e. is_there (map_at h s x.0) x.1 (e ∙ there_at-entries_of h s x.0)) are.presence;
        as_it_was = λ q not_listed. sym (map_at_untouched h s n q within (false_unless _ (λ t. not_listed ((ids q).1 t))));
      }
