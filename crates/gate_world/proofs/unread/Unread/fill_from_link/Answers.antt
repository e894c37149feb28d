-- What came stands at the end, also of what was moved to the front.
use Rattle.std.proofs.Common.{◌≡◌, ◌+◌, ◌-◌, ◌≤◌, take, length, refl, ap, arith, ◌∙◌}
use Rattle.std.proofs.lemmas.List.{length-take-le}
use Rattle.gate_world.proofs.Joins.{none, widen}
use Rattle.gate_world.proofs.UnreadLemmas.{filled, unfilled, same_range, length-mid}
use Rattle.gate_world.proofs.unread.Unread.fill_from_link.Goals as goal

pub returns-in_default-clause-tape : goal.returns-in_default-clause-tape
returns-in_default-clause-tape g c =
    let u = c.self.inside in
    none _ _ (same_range c.make_room.new.held.items u.held.items u.from u.to (omega arith) c.make_room.ensures.kept ∙ c.self.view_is ∙ c.move_to_front.ensures, refl)

pub returns-in-Ok-read-clause-octets : goal.returns-in-Ok-read-clause-octets
returns-in-Ok-read-clause-octets g c =
    let u = c.self.inside in
    let room = c.deref_mut.result.now in
    let asked = (u.to + 65536 - u.to) in
    let within : u.to + asked ≤ length room = omega (arith, c.in-Ok.ensures.room) in
    let mid = length-mid room u.to asked within in
    let all : length c.read.new.into ≡ asked = omega arith in
    let same : take u.to room ≡ take u.to u.held.items = ap (take u.to) c.deref_mut.ensures.value ∙ c.make_room.ensures.kept in
    let was = c.self.view_is ∙ c.move_to_front.ensures in
    let bound = c.in-Ok-read.ensures.bound in
    let len = length-take-le c.in-Ok-read.count c.read.new.into bound.1 in (
      take c.in-Ok-read.count c.read.new.into,
      filled c.make_room.new.held u.held.items room c.read.new.into _ u.from u.to asked c.in-Ok-read.count (omega arith) within (omega arith) all (omega arith) same was,
      omega arith,
      omega arith,
    )

pub returns-in-Ok-read-clause-tape : goal.returns-in-Ok-read-clause-tape
returns-in-Ok-read-clause-tape g c =
    let u = c.self.inside in
    let room = c.deref_mut.result.now in
    let asked = (u.to + 65536 - u.to) in
    let within : u.to + asked ≤ length room = omega (arith, c.in-Ok.ensures.room) in
    let mid = length-mid room u.to asked within in
    let all : length c.read.new.into ≡ asked = omega arith in
    let same : take u.to room ≡ take u.to u.held.items = ap (take u.to) c.deref_mut.ensures.value ∙ c.make_room.ensures.kept in
    let was = c.self.view_is ∙ c.move_to_front.ensures in
    let bound = c.in-Ok-read.ensures.bound in
    let len = length-take-le c.in-Ok-read.count c.read.new.into bound.1 in
    widen _ c.in-Ok-read.ensures.ok (λ x is. (
      take c.in-Ok-read.count c.read.new.into,
      filled c.make_room.new.held u.held.items room c.read.new.into _ u.from u.to asked c.in-Ok-read.count (omega arith) within (omega arith) all (omega arith) same was,
      is,
    ))

pub returns-in-Err-clause-octets : goal.returns-in-Err-clause-octets
returns-in-Err-clause-octets g c =
    let u = c.self.inside in
    let room = c.deref_mut.result.now in
    let asked = (u.to + 65536 - u.to) in
    let within : u.to + asked ≤ length room = omega (arith, c.in-Ok.ensures.room) in
    let mid = length-mid room u.to asked within in
    let all : length c.read.new.into ≡ asked = omega arith in
    let same : take u.to room ≡ take u.to u.held.items = ap (take u.to) c.deref_mut.ensures.value ∙ c.make_room.ensures.kept in
    let was = c.self.view_is ∙ c.move_to_front.ensures in
    unfilled c.make_room.new.held u.held.items room c.read.new.into _ u.from u.to asked (omega arith) within (omega arith) all same was

pub returns-in-Err-clause-tape : goal.returns-in-Err-clause-tape
returns-in-Err-clause-tape g c =
    let u = c.self.inside in
    let room = c.deref_mut.result.now in
    let asked = (u.to + 65536 - u.to) in
    let within : u.to + asked ≤ length room = omega (arith, c.in-Ok.ensures.room) in
    let mid = length-mid room u.to asked within in
    let all : length c.read.new.into ≡ asked = omega arith in
    let same : take u.to room ≡ take u.to u.held.items = ap (take u.to) c.deref_mut.ensures.value ∙ c.make_room.ensures.kept in
    let was = c.self.view_is ∙ c.move_to_front.ensures in
    widen _ c.in-Err.ensures.err (λ x is. (
      unfilled c.make_room.new.held u.held.items room c.read.new.into _ u.from u.to asked (omega arith) within (omega arith) all same was,
      is,
    ))
