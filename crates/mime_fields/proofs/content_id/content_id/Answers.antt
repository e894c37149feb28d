use Rattle.std.proofs.Common.{◌≡◌, ℕ, true, List, Option, sym, ap, ◌∙◌, subst}
use Rattle.std.proofs.lemmas.Result.{IfOk-weaker}
use Rattle.mail_header.specs.RawForms.{raw_form}
use Rattle.mail_header.specs.WhiteEnd.{some_text}
use Rattle.mime_fields.specs.ContentIds.{IsEnclosed, IsWithoutGaps, IsWithoutAngles, IsContentId, Enclosed, Loose}
use Rattle.mime_fields.proofs.content_id.content_id.Goals as goal

pub returns-in-Some : goal.returns-in-Some
returns-in-Some c =
    let raw = c.args.raw.now in
    let inner = c.in-Some.inner.now in
    let id = c.in_ok-id-in-Some.id.items in
    let t : c.as_slice.result.now ≡ raw_form raw = c.as_slice.ensures ∙ c.in_ok-text.ensures in
    let P : List ℕ → Type 0 = λ u. IsEnclosed inner u in
    let Q : Option (List ℕ) → Type 0 = λ v. IsContentId raw v in
    let h : IsContentId raw (some_text id) = Enclosed inner id (subst P t c.in-Some.ensures) c.in_ok-id-in-Some.ensures in
    IfOk-weaker c.some_id.result _ _ (λ v e. subst Q (sym (e ∙ ap some_text c.as_slice-in-Some.ensures.value)) h) c.some_id.ensures

pub returns : goal.returns
returns c =
    let raw = c.args.raw.now in
    let kept = c.in_ok-kept-in-None.kept.items in
    let id = c.without_angles.result.now in
    let t : c.as_slice.result.now ≡ raw_form raw = c.as_slice.ensures ∙ c.in_ok-text.ensures in
    let t' : c.as_slice-in-None.result.now ≡ raw_form raw = c.as_slice-in-None.ensures ∙ c.in_ok-text.ensures in
    let P : List ℕ → Type 0 = λ u. (inner : List ℕ) → IsEnclosed inner u → ⊥ in
    let R : List ℕ → Type 0 = λ u. IsWithoutGaps true kept u in
    let S : List ℕ → Type 0 = λ u. IsWithoutAngles id u in
    let Q : Option (List ℕ) → Type 0 = λ v. IsContentId raw v in
    let h : IsContentId raw (some_text id) =
    Loose kept id (subst P t c.in-None.ensures) (subst R t' c.in_ok-kept-in-None.ensures) (subst S c.as_slice-in-None-2.ensures.value c.without_angles.ensures) in
    IfOk-weaker c.some_id-in-None.result _ _ (λ v e. subst Q (sym e) h) c.some_id-in-None.ensures
