use Rattle.std.proofs.Common.{◌≡◌, Bool, true, not, ◌&&◌, sym, ap, ◌∙◌}
use Rattle.std.specs.List.{list_any}
use Rattle.std.specs.Str.{is_utf8}
use Rattle.std.proofs.lemmas.Str.{is_utf8-from_IsUtf8}
use Rattle.header_words.specs.EncodedWords.{is_control}
use Rattle.draft_reading.proofs.texts.is_line.Goals as goal

pub returns : goal.returns
returns c =
    let t = c.args.text.now in
    let utf8 : is_utf8 t ≡ true = is_utf8-from_IsUtf8 t c.utf8.text in
    ap not (c.has_control.ensures ∙ ap (list_any is_control) c.as_bytes.ensures.value) ∙ sym (ap (λ (b : Bool). b && not (list_any is_control t)) utf8)
