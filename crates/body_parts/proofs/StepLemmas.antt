-- What is put in turn.
use Rattle.std.proofs.Common.{◌≡◌, ◌∙◌, ℕ, ◌+◌, ◌<◌, Bool, true, false, cond, List, [], ◌∷◌, ◌++◌, length, take, get_or, refl, sym, ap, subst}
use Rattle.std.specs.Bool.{MatchBool}
use Rattle.std.specs.List.{filter}
use Rattle.std.proofs.lemmas.List.{take_more}
use Rattle.serde_json.specs.Data.{Members}
use Rattle.serde_json.specs.Written.{members_have_float}
use Rattle.body_parts.specs.Steps.{InTurn}
use Rattle.body_parts.specs.reading.StepsIf.{StepIf}

module _ {A : Type 0} (Step : A → Members → Members → Type 0) where
  turn_last : (xs : List A) (x : A) (a b c : Members) → InTurn Step xs a b → Step x b c → InTurn Step (xs ++ x ∷ []) a c
  turn_last [] x a b c h one = (c, subst (λ (ms : Members). Step x ms c) h one, refl)
  turn_last (y ∷ xs) x a b c h one = (h.0, h.1, turn_last xs x h.0 b c h.2 one)

  -- one step more
  pub turn_more : (xs : List A) (i : ℕ) (x : A) (a b c : Members) → i < length xs → InTurn Step (take i xs) a b → Step (get_or xs i x) b c → InTurn Step (take (i + 1) xs) a c
  turn_more xs i x a b c lt h one =
      subst (λ (u : List A). InTurn Step u a c) (sym (take_more xs i x lt)) (turn_last (take i xs) (get_or xs i x) a b c h one)

  -- where each step leads to one place, the steps in turn do
  pub one_turn : ((x : A) (a b c : Members) → Step x a b → Step x a c → b ≡ c) → (xs : List A) (a b c : Members) → InTurn Step xs a b → InTurn Step xs a c → b ≡ c
  one_turn one [] a b c g h = g ∙ sym h
  one_turn one (x ∷ xs) a b c g h =
      one_turn one xs h.0 b c (subst (λ (ms : Members). InTurn Step xs ms b) (one x a g.0 h.0 g.1 h.1) g.2) h.2

  -- where no step brings a fraction in, the steps in turn bring none in
  pub turn_whole : ((x : A) (a b : Members) → Step x a b → members_have_float a ≡ false → members_have_float b ≡ false) → (xs : List A) (a b : Members) → InTurn Step xs a b
      → members_have_float a ≡ false → members_have_float b ≡ false
  turn_whole whole [] a b h g = ap members_have_float h ∙ g
  turn_whole whole (x ∷ xs) a b h g = turn_whole whole xs h.0 b h.2 (whole x a h.0 h.1 g)

  -- steps that are taken where a test says so are those of the elements that pass the test
  pub turn_filter : (test : A → Bool) (xs : List A) (a b : Members) → InTurn (StepIf test Step) xs a b → InTurn Step (filter test xs) a b
  turn_filter test [] a b h = h
  turn_filter test (x ∷ xs) a b h = by (test x) h.1 (turn_filter test xs h.0 b h.2)
    where
      by : (t : Bool) → MatchBool t (Step x a h.0) (h.0 ≡ a) → InTurn Step (filter test xs) h.0 b → InTurn Step (cond t (x ∷ filter test xs) (filter test xs)) a b
      by true one more = (h.0, one, more)
      by false one more = subst (λ (ms : Members). InTurn Step (filter test xs) ms b) one more

-- two tests that agree pass the same elements
pub filter_same : {A : Type 0} (f g : A → Bool) (xs : List A) → ((x : A) → f x ≡ g x) → filter f xs ≡ filter g xs
filter_same f g [] same = refl
filter_same f g (x ∷ xs) same = let one = same x in let more = filter_same f g xs same in λ i. cond (one i) (x ∷ more i) (more i)
