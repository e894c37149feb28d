use Rattle.std.proofs.Common.{ℕ, ◌+◌, List, ◌++◌, drop, sym, ap, ◌∙◌, take-append-drop}
use Rattle.header_tokens.proofs.BracketContents.{Apart}
use Rattle.header_tokens.proofs.BracketReading.{bracket_read, none_read, none_begins}
use Rattle.header_tokens.proofs.tokens.bracketed_at.Goals as goal

pub returns-in_default : goal.returns-in_default
returns-in_default c = none_begins c.args.first c.args.opener c.args.closer c.args.text.now c.in_default.ensures

pub returns-in-None : goal.returns-in-None
returns-in-None c =
    let a : Apart c.args.opener c.args.closer = record { opener = c.requires.opener; closer = c.requires.closer; two = c.requires.two } in
    none_read c.args.first c.args.opener c.args.closer c.args.text.now c.in-Some.rest.now a c.in-Some.ensures (sym c.in-None.ensures.value)

pub returns-in-Some-closing : goal.returns-in-Some-closing
returns-in-Some-closing c =
    let a : Apart c.args.opener c.args.closer = record { opener = c.requires.opener; closer = c.requires.closer; two = c.requires.two } in
    let n = c.in-Some-closing.len in
    let t = c.args.text.now in (
      bracket_read c.args.first c.args.opener c.args.closer n t c.in-Some.rest.now c.split_at.result.0.now a c.in-Some.ensures
          (sym c.in-Some-closing.ensures.value) c.split_at.ensures.front,
      sym (take-append-drop (n + 1) t) ∙ ap (λ (u : List ℕ). u ++ drop (n + 1) t) (sym c.split_at.ensures.front)
          ∙ ap (λ (u : List ℕ). c.split_at.result.0.now ++ u) (sym c.split_at.ensures.back),
    )
