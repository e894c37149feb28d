-- Nobody has come to a new front.
use Rattle.std.proofs.Common.{◌≡◌, refl, subst, sym}
use Rattle.std.specs.Prelude.{Option, None, Some, IfSome, IsNone}
use Rattle.client_front.specs.Accepting.{State, nobody_yet}
use Rattle.client_front.specs.Handing.{NoneOrBothSo}

-- what is so of a front and the listener that it was made of is so of the front
pub so-of-both : {L F : Type 0} (P : L → F → Type 0) (Q : F → Type 0) → ((listener : L) (front : F) → P listener front → Q front)
    → (listener : Option L) (front : Option F) → NoneOrBothSo P listener front → IfSome front Q
so-of-both P Q so None None both = tt
so-of-both P Q so None (Some front) both = cc
so-of-both P Q so (Some listener) None both = absurd both
so-of-both P Q so (Some listener) (Some front) both = so listener front both

-- a state in which nobody has come to a listener, is one in which nobody has come to its own
pub its-own : {L C S : Type 0} (listener : L) (clock : C) (state : State L C S) → state ≡ nobody_yet listener clock
    → state ≡ nobody_yet state.listener state.clock
its-own {L} {C} {S} listener clock state is = subst (λ (s : State L C S). s ≡ nobody_yet s.listener s.clock) (sym is) refl
