-- Destroys, each object once.
use Rattle.std.proofs.Common.{◌≡◌, ◌||◌, ◌++◌, ℕ, List, [], ◌∷◌, map, true, false, refl, sym, ap, ◌∙◌, append-nil, append_assoc}
use Rattle.std.specs.Str.{bytes_eq}
use Rattle.std.proofs.lemmas.List.{map-append}
use Rattle.jmap_arguments.specs.Arguments.{is_among}
use Rattle.jmap_arguments.proofs.OnceLemmas.{seen_too, seen_still}
use Rattle.set_order.specs.Ordered.{Item, Destroy, each_once}
use Rattle.set_order.proofs.OnceByLemmas.{left_by, none_left_by, seen_before_by, seen_first_by}

-- of all texts those before the rest: once each object, in `seen`, with their items after those before
pub record AreDestroyed (object : List ℕ → List ℕ) (all rest seen : List (List ℕ)) (before after : List Item) : Type 0 where
  pub once : List (List ℕ)
  pub objects : List (List ℕ)
  pub all_are : each_once object all ≡ once ++ left_by object objects (each_once object rest)
  pub seen_are : (text : List ℕ) → is_among text seen ≡ is_among text objects
  pub after_is : after ≡ before ++ map Destroy once

module _ (object : List ℕ → List ℕ) (all : List (List ℕ)) (before : List Item) where
  pub none_destroyed : AreDestroyed object all all [] before before
  none_destroyed = record {
    once = [];
    objects = [];
    all_are = sym (none_left_by object (each_once object all));
    seen_are = λ text. refl;
    after_is = sym (append-nil before);
  }

  module _ (text : List ℕ) (rest seen seen_then : List (List ℕ)) (after : List Item) (m : AreDestroyed object all (text ∷ rest) seen before after)
      (then_is : (other : List ℕ) → is_among other seen_then ≡ (bytes_eq (object text) other || is_among other seen)) where
    pub destroyed_first : is_among (object text) seen ≡ false → AreDestroyed object all rest seen_then before (after ++ Destroy text ∷ [])
    destroyed_first new = record {
      once = m.once ++ text ∷ [];
      objects = m.objects ++ object text ∷ [];
      all_are = seen_first_by object all rest m.once m.objects text m.all_are (sym (m.seen_are (object text)) ∙ new);
      seen_are = λ other. then_is other ∙ seen_too seen m.objects (object text) other (m.seen_are other);
      after_is =
          ap (λ (is : List Item). is ++ Destroy text ∷ []) m.after_is ∙ append_assoc before (map Destroy m.once) (Destroy text ∷ [])
          ∙ ap (λ (is : List Item). before ++ is) (sym (map-append Destroy m.once (text ∷ [])));
    }

    pub destroyed_before : is_among (object text) seen ≡ true → AreDestroyed object all rest seen_then before after
    destroyed_before there = record {
      once = m.once;
      objects = m.objects;
      all_are = seen_before_by object all rest m.once m.objects text m.all_are (sym (m.seen_are (object text)) ∙ there);
      seen_are = λ other. then_is other ∙ seen_still seen m.objects (object text) other there (m.seen_are other);
      after_is = m.after_is;
    }

  pub all_destroyed : (seen : List (List ℕ)) (after : List Item) → AreDestroyed object all [] seen before after → after ≡ before ++ map Destroy (each_once object all)
  all_destroyed seen after m = m.after_is ∙ ap (λ (ts : List (List ℕ)). before ++ map Destroy ts) (sym (m.all_are ∙ append-nil m.once))
