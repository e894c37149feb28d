use Rattle.std.proofs.Common.{◌++◌, string_bytes, List, ℕ, sym, ap, ◌∙◌, arith, rules}
use Rattle.std.proofs.lemmas.Str.Pattern.{split_parts}
use Rattle.serde_json.specs.Find.{unescape}
use Rattle.serde_json.proofs.Paths.{unescape_plain}
use Rattle.result_references.proofs.Segments.{unescape-more}
use Rattle.result_references.proofs.path.unescaped.Goals as goal

pub escapes-preserved : goal.escapes-preserved
escapes-preserved c =
    let l = c.escapes in
    let cut = rw c.in-Some.is at (split_parts 126 l.rest.now c.split_once.result c.split_once.ensures.cases (omega arith)) in
    let all =
    unescape-more (unescape c.args.token.now) (string_bytes l.name) l.rest.now c.in-Some.plain.now c.in-Some.escaped.now c.behind_tilde.result.0.now c.behind_tilde.result.1.now l.invariant.0 cut.0 cut.1
    c.behind_tilde.ensures.stands in
    let plain = c.in_ok-push_str.ensures.bytes in
    let stands = c.in_ok-push_str-2.ensures.bytes in
    (all ∙ ap (λ (s : List ℕ). s ++ unescape c.behind_tilde.result.1.now) (sym (stands ∙ ap (λ (s : List ℕ). s ++ c.behind_tilde.result.0.now) plain)), search rules)

pub returns : goal.returns
returns c =
    let l = c.escapes in
    let none = rw c.in_default.is at (split_parts 126 l.rest.now c.split_once.result c.split_once.ensures.cases (omega arith)) in
    c.in_ok-push_str-3.ensures.bytes ∙ sym (l.invariant.0 ∙ ap (λ (s : List ℕ). string_bytes l.name ++ s) (unescape_plain l.rest.now none))
