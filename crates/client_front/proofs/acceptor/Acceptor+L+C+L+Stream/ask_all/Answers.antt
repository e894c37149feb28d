use Rattle.std.proofs.Common.{ℕ, List, ap, arith, refl, subst, sym}
use Rattle.std.proofs.lemmas.List.{take_more}
use Rattle.client_front.specs.Accepting.{Asked, NoKey, OneKey}
use Rattle.client_front.specs.Waiting.{held}
use Rattle.client_front.specs.declared.acceptor.Acceptor.{Acceptor}
use Rattle.client_front.proofs.acceptor.Acceptor+L+C+L+Stream.ask_all.Goals as goal

pub loop-key-init : goal.loop-key-init
loop-key-init g c = record { asked = NoKey; same = refl }

pub loop-key-preserved : goal.loop-key-preserved
loop-key-preserved g c = record {
  asked = subst (λ (keys : List ℕ). Asked g.L.Stream.ClientStream.shows g.L.Stream.ClientStream.closes c.args.now (held c.args.self.now.waiting) keys (held c.ask.new.self))
      (sym (take_more c.args.keys.now c.loop-key.key-index 0 (omega arith))) (OneKey c.loop-key.invariant.asked c.ask.ensures);
  same = ap (λ (a : Acceptor g.row.L.Denot g.row.C.Denot g.row.L-Stream.Denot). record a { waiting = c.ask.new.self }) c.loop-key.invariant.same;
}
