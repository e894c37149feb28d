use Rattle.std.proofs.Common.{inl, inr, refl}
use Rattle.std.proofs.lemmas.Bool.{false≢true}
use Rattle.client_front.specs.Accepting.{state}
use Rattle.client_front.specs.Finishing.{NoLook, OneLook}
use Rattle.client_front.proofs.acceptor.Acceptor+L+C+L+Stream.end.Goals as goal

pub looks-init : goal.looks-init
looks-init g c = NoLook

pub returns-then-is_over : goal.returns-then-is_over
returns-then-is_over g c = inl (c.looks.looked, c.looks.invariant, c.if-is_over.ensures.0 refl)

pub returns-in_default : goal.returns-in_default
returns-in_default g c = inr (inl (c.looks.looked, state c.looks.self, c.looks.invariant, λ none. false≢true (c.if-is_over.ensures.1 none), c.in_default.ensures.fails))

pub looks-preserved : goal.looks-preserved
looks-preserved g c = OneLook c.looks.invariant (λ none. false≢true (c.if-is_over.ensures.1 none)) c.in-Some.ensures.looks
