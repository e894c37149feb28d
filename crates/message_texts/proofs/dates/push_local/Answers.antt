use Rattle.std.proofs.Common.{ℤ, w32, ◌++◌, ap, ◌∙◌}
use Rattle.std.proofs.lemmas.Int.{to_z-of_z}
use Rattle.message_texts.specs.DateTexts.{day_name, zone_text}
use Rattle.std.proofs.lemmas.Result.{on_ok_weaker}
use Rattle.message_texts.proofs.DateLemmas.{date_written}
use Rattle.message_texts.proofs.dates.push_local.Goals as goal

pub returns : goal.returns
returns c =
    on_ok_weaker c.push_zone.result
    (λ ended. date_written c.args.text.now.items c.extend_from_slice.new.self.items c.extend_from_slice-2.new.self.items c.push_day.new.text.items c.push.new.self.items
    c.push_clock.new.text.items c.push-2.new.self.items c.push_zone.new.text.items c.as_bytes.result.now c.args.local.day c.args.local.clock c.args.offset_minutes
    (c.as_bytes.ensures.value ∙ c.day_name.ensures ∙ ap day_name c.requires.weekday) c.in_ok-extend_from_slice.ensures.items c.in_ok-extend_from_slice-2.ensures.items c.in_ok-push_day.ensures c.in_ok-push.ensures.items
    c.in_ok-push_clock.ensures c.in_ok-push-2.ensures.items (ended ∙ ap (λ (z : ℤ). c.push-2.new.self.items ++ zone_text z) (to_z-of_z w32 c.args.offset_minutes c.ranges.offset_minutes))) c.push_zone.ensures
