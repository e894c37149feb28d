use Rattle.std.proofs.Common.{◌≡◌, ◌∙◌, ℕ, Vec, Global, String, ap, sym, rules}
use Rattle.std.specs.Prelude.{string_bytes}
use mathlib.Core.Logic.{∥∥₁_elim}
use Rattle.std.specs.Coded.{Coded-set, coded_list, coded_ℕ}
use Rattle.std.specs.Str.Lossy.{utf8_lossy}
use Rattle.std.proofs.lemmas.Str.{utf8_lossy-IsUtf8}
use Rattle.serde_json.specs.Data.{string}
use Rattle.serde_json.specs.View.{view}
use Rattle.serde_json.specs.declared.value.Value.{String as Text, the_lemmas}
use Rattle.json_texts.proofs.texts.owned_text_value.Goals as goal

view-String : (t : String Global) → view (Text t) ≡ string (string_bytes t)
view-String t = search (rules, the_lemmas)

pub returns-in-Ok : goal.returns-in-Ok
returns-in-Ok c =
    let t = string_bytes c.in-Ok.text in
    let e : t ≡ c.args.octets.items = ap (λ (v : Vec ℕ Global). v.items) c.in-Ok.ensures.ok in
    let valid : utf8_lossy t ≡ t = ∥∥₁_elim c.in-Ok.text.ok (Coded-set (coded_list coded_ℕ) (utf8_lossy t) t) (λ u. utf8_lossy-IsUtf8 t u) in
    view-String c.in-Ok.text ∙ ap string (sym valid ∙ ap utf8_lossy e)
