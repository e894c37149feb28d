-- Things that are shown one after another, for which bodies are asked.
use Rattle.std.specs.Prelude.{List, [], ◌∷◌, ◌++◌, Result, Ok, Err}
use Rattle.email_bodies.specs.Asking.{BodyAsk}

-- what one thing more makes of the rest
abbrev pub with_shown : {D E : Type 0} → D → Result (List D) E → Result (List D) E
with_shown d (Ok ds) = Ok (d ∷ ds)
with_shown d (Err e) = Err e

-- where each is shown so for the bodies that are asked for it, or can't be
module _ {A D E : Type 0} (Shows : A → List BodyAsk → Result D E → Type 0) where
  -- All of these are shown in order. Behind one that can't be shown no body is asked.
  pub data ShowsAll : List A → List BodyAsk → Result (List D) E → Type 0 where
    NoneLeft : ShowsAll [] [] (Ok [])
    OneShown : {xs : List A} {asks more : List BodyAsk} {rest : Result (List D) E} (x : A) (d : D) → Shows x asks (Ok d) → ShowsAll xs more rest
        → ShowsAll (x ∷ xs) (asks ++ more) (with_shown d rest)
    OneFails : {asks : List BodyAsk} (x : A) (xs : List A) (e : E) → Shows x asks (Err e) → ShowsAll (x ∷ xs) asks (Err e)
