use Rattle.std.proofs.Common.{◌∙◌, ap}
use Rattle.body_parts.specs.Texts.{with_lf}
use Rattle.body_parts.proofs.texts.text_of.Goals as goal

pub returns : goal.returns
returns c =
    let d = c.in_ok-spelled.ensures in
    record {
      octets = d.octets;
      misspelled = d.misspelled;
      has_octets = d.has_octets;
      text_is = c.in_ok-text.ensures ∙ ap with_lf (c.as_slice.ensures.value ∙ d.text_is);
      problem_is = d.problem_is;
    }
