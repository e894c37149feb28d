use Rattle.std.proofs.Common.{ℕ, arith, inl, inr, refl, subst}
use Rattle.client_streams.specs.Draining.{DropsPiece, NoPiece, OnePiece}
use Rattle.client_streams.proofs.finished.Finished.drop_all.Goals as goal

pub pieces-init : goal.pieces-init
pieces-init g c = NoPiece

-- as many octets are dropped as may be
pub returns-then-self-ge-MAX_DRAIN_OCTETS : goal.returns-then-self-ge-MAX_DRAIN_OCTETS
returns-then-self-ge-MAX_DRAIN_OCTETS g c = (c.pieces.piece, c.pieces.self, c.pieces.invariant, inr (inl (omega (arith, c.if-self-ge-MAX_DRAIN_OCTETS.true)), refl))

pub returns-in_default : goal.returns-in_default
returns-in_default g c = (c.pieces.piece, c.pieces.self, c.pieces.invariant, omega (arith, c.pieces-test.true), c.in_default.ensures.none)

-- none has come yet
pub returns-then-count-eq0 : goal.returns-then-count-eq0
returns-then-count-eq0 g c = (
  c.pieces.piece,
  c.pieces.self,
  c.pieces.invariant,
  inl (omega (arith, c.pieces-test.true), subst (λ (n : ℕ). DropsPiece g.S.ClientStream.gives n c.pieces.self c.drop_piece.new.self) c.if-count-eq0.true c.in-Some.ensures.some),
)

pub pieces-preserved : goal.pieces-preserved
pieces-preserved g c = OnePiece {n = c.in-Some.count} c.pieces.invariant (omega (arith, c.pieces-test.true)) (omega (arith, c.if-count-eq0.false)) c.in-Some.ensures.some

-- as many pieces are dropped as one look may
pub returns : goal.returns
returns g c = (c.pieces.piece, c.pieces.self, c.pieces.invariant, inr (inr (omega (arith, c.pieces-test.false, c.pieces.auto.piece-end)), refl))
