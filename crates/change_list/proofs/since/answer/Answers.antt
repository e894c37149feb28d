use Rattle.std.proofs.Common.{refl, ◌∙◌, sym}
use Rattle.change_list.specs.reading.Parts.{has_of}
use Rattle.change_list.specs.declared.parts.Part.TheVariants.{Mixed}
use Rattle.change_list.proofs.Picked.{picked, lists_picked, none_picked, no_value_passes}
use Rattle.change_list.proofs.since.answer.Goals as goal

pub returns : goal.returns
returns c = record {
  seen = c.in_ok-seen.seen;
  taken = c.in_ok-seen.taken;
  mixed = picked (has_of Mixed) c.in_ok-seen.seen.entries;
  gathered = c.in_ok-seen.ensures;
  to = refl;
  created = c.in_ok-created.ensures;
  updated = c.in_ok-updated.ensures;
  destroyed = c.in_ok-destroyed.ensures;
  those_mixed = lists_picked (has_of Mixed) c.in_ok-seen.seen c.has_any.ensures.ordered;
  counts_only = (
    (λ is. let parts = c.has_only_counts-counts_only.ensures.0 is in (parts.0, none_picked (has_of Mixed) c.in_ok-seen.seen.entries (sym c.has_any.ensures.any ∙ parts.1))),
    (λ parts. c.has_only_counts-counts_only.ensures.1 (parts.0, c.has_any.ensures.any ∙ no_value_passes (has_of Mixed) c.in_ok-seen.seen.entries parts.1)),
  );
}
