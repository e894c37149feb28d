use Rattle.std.proofs.Common.{inl, inr, true, false}
use Rattle.client_front.proofs.Finished.{response-ends}
use Rattle.client_front.proofs.serving.Serving.finish.Goals as goal

-- the clock failed
pub returns-in_default-clause-closed : goal.returns-in_default-clause-closed
returns-in_default-clause-closed g c = inl (c.end_writing.new.self, c.end_writing.ensures, c.in_default.ensures, c.close.ensures)

pub returns-then-drop_all-clause-open : goal.returns-then-drop_all-clause-open
returns-then-drop_all-clause-open g c =
    response-ends g.S.ClientStream.ends g.S.ClientStream.gives g.C.Ticks.reads true c.args.self.stream c.end_writing.new.self c.args.clock.now
    c.milliseconds.new.self c.in-Some.now c.new-client.result c.drop_all.new.self c.end_writing.ensures c.in-Some.ensures c.new-client.ensures
    c.if-drop_all.ensures

pub returns-clause-closed : goal.returns-clause-closed
returns-clause-closed g c = inr (
  c.drop_all.new.self,
  response-ends g.S.ClientStream.ends g.S.ClientStream.gives g.C.Ticks.reads false c.args.self.stream c.end_writing.new.self c.args.clock.now
      c.milliseconds.new.self c.in-Some.now c.new-client.result c.drop_all.new.self c.end_writing.ensures c.in-Some.ensures c.new-client.ensures
      c.if-drop_all.ensures,
  c.close-2.ensures,
)
