use Rattle.std.proofs.Common.{◌∙◌, ap, inl, refl, sym}
use Rattle.client_front.proofs.Handed.{first-leaves, hands-on, never-comes, still-comes}
use Rattle.client_front.specs.Accepting.{state, world}
use Rattle.client_front.specs.Waiting.{held}
use Rattle.client_streams.specs.Leaving.{Open, open_of}
use Rattle.client_front.specs.declared.scan.Coming.TheVariants.{Never}
use Rattle.client_front.proofs.acceptor.Acceptor+L+C+L+Stream.turn.Goals as goal

-- it failed
pub returns-then-is_never-clause-turned : goal.returns-then-is_never-clause-turned
returns-then-is_never-clause-turned g c =
    inl (
      c.in-Some.stream,
      first-leaves (world g.L.Stream.ClientStream.shows g.L.Stream.ClientStream.closes g.L.Stream.ClientStream.gives g.L.Stream.ClientStream.takes g.L.Stream.ClientStream.ends g.C.Ticks.reads g.L.ClientListener.waits g.L.ClientListener.comes) (state c.args.self.now) c.in-Some.stream (held c.next_asking.new.self) c.new-scan.result c.look-coming.result Never
          c.in-Some.ensures.some c.in-Some.ensures.idle c.new-scan.ensures c.look-coming.ensures (never-comes c.look-coming.result (sym c.is_never.ensures ∙ c.if-is_never.true)),
      c.close.ensures,
    )

-- the clock failed
pub returns-in_default-milliseconds-clause-fails : goal.returns-in_default-milliseconds-clause-fails
returns-in_default-milliseconds-clause-fails g c =
    let first = first-leaves (world g.L.Stream.ClientStream.shows g.L.Stream.ClientStream.closes g.L.Stream.ClientStream.gives g.L.Stream.ClientStream.takes g.L.Stream.ClientStream.ends g.C.Ticks.reads g.L.ClientListener.waits g.L.ClientListener.comes) (state c.args.self.now) c.in-Some.stream (held c.next_asking.new.self) c.new-scan.result c.look-coming.result c.look-coming.result
    c.in-Some.ensures.some c.in-Some.ensures.idle c.new-scan.ensures c.look-coming.ensures refl in
    inl (c.in-Some.stream, c.look-coming.result, record (state c.args.self.now) { held = held c.next_asking.new.self }, first, still-comes c.look-coming.result (sym c.is_never.ensures ∙ c.if-is_never.false), c.in_default-milliseconds.ensures, c.close-in_default-milliseconds.ensures, refl)

pub returns-clause-handed : goal.returns-clause-handed
returns-clause-handed g c =
    let left = record (state c.args.self.now) { held = held c.next_asking.new.self } in
    let first = first-leaves (world g.L.Stream.ClientStream.shows g.L.Stream.ClientStream.closes g.L.Stream.ClientStream.gives g.L.Stream.ClientStream.takes g.L.Stream.ClientStream.ends g.C.Ticks.reads g.L.ClientListener.waits g.L.ClientListener.comes) (state c.args.self.now) c.in-Some.stream (held c.next_asking.new.self) c.new-scan.result c.look-coming.result c.look-coming.result
    c.in-Some.ensures.some c.in-Some.ensures.idle c.new-scan.ensures c.look-coming.ensures refl in
    hands-on (world g.L.Stream.ClientStream.shows g.L.Stream.ClientStream.closes g.L.Stream.ClientStream.gives g.L.Stream.ClientStream.takes g.L.Stream.ClientStream.ends g.C.Ticks.reads g.L.ClientListener.waits g.L.ClientListener.comes) (state c.args.self.now) left (record left { clock = c.milliseconds.new.self; leaving = open_of c.begin.new.self }) (open_of c.go_on.new.self) c.in-Some.stream c.look-coming.result c.new-serving.result c.in-Some-milliseconds.now
    c.new-serving.ensures first (still-comes c.look-coming.result (sym c.is_never.ensures ∙ c.if-is_never.false)) c.in-Some-milliseconds.ensures c.go_on.ensures (ap (λ (o : Open g.row.L-Stream.Denot). record left { clock = c.milliseconds.new.self; leaving = o }) c.begin.ensures)
