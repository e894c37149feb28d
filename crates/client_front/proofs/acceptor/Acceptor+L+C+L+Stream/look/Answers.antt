use Rattle.std.proofs.Common.{ℕ, List, subst, take}
use Rattle.client_front.proofs.Handed.{look-ends, look-went-on}
use Rattle.client_front.specs.Accepting.{Asked, state}
use Rattle.client_front.specs.Waiting.{held}
use Rattle.client_streams.specs.Leaving.{open_of}
use Rattle.client_front.proofs.acceptor.Acceptor+L+C+L+Stream.look.Goals as goal

pub returns-clause-looks : goal.returns-clause-looks
returns-clause-looks g c = record {
  keys = take c.in_ok-count.count c.wait.new.room;
  listener = c.wait.new.self;
  waited = c.in_ok-count.ensures.waited;
  now = c.in_ok-now.now;
  clock = c.milliseconds.new.self;
  is_now = c.in_ok-now.ensures;
  came = state c.admit_all.new.self;
  come = c.admit_all.ensures;
  after = held c.ask_all.new.self.waiting;
  asked = subst
      (λ (keys : List ℕ). Asked g.L.Stream.ClientStream.shows g.L.Stream.ClientStream.closes c.in_ok-now.now (held c.admit_all.new.self.waiting) keys (held c.ask_all.new.self.waiting))
      c.split_at.ensures.front c.ask_all.ensures.asked;
  expired = c.expire.ensures;
  went_on = look-went-on g.L.Stream.ClientStream.takes g.L.Stream.ClientStream.ends g.L.Stream.ClientStream.gives g.L.Stream.ClientStream.closes c.admit_all.new.self c.ask_all.new.self c.in_ok-now.now (open_of c.go_on.new.self)
      c.ask_all.ensures.same c.go_on.ensures;
  after_all = look-ends c.admit_all.new.self c.ask_all.new.self c.expire.new.self c.go_on.new.self c.ask_all.ensures.same;
}
