use Rattle.std.proofs.Common.{◌≡◌, ◌∙◌, ◌<◌, ◌+◌, ◌∷◌, ℕ, List, length, drop, ap, sym, arith}
use Rattle.imap_types.specs.declared.response.Response.{Response}
use Rattle.told_folder.proofs.StepLemmas.{left, none_left}
use Rattle.told_changes.proofs.FirstCodes.{first_told, passed, told_first, told_last}
use Rattle.told_changes.proofs.codes.moved_uid.Goals as goal

pub loop-response-preserved : goal.loop-response-preserved
loop-response-preserved c =
    let rs : List Response = c.args.responses.now in
    let i : ℕ = c.loop-response.response-index in
    let r : Response = c.response-item.result in
    let within : i < length rs = omega (arith, c.loop-response-test.true) in
    let here : drop i rs ≡ r ∷ drop (i + 1) rs = left rs i r within c.response-item.is in
    sym (ap (λ (zs : List Response). first_told c.args.validity c.args.uid zs c.args.code.now) here
    ∙ passed c.args.validity c.args.uid r (drop (i + 1) rs) c.args.code.now c.in_default.ensures)
    ∙ c.loop-response.invariant

pub returns-in-Some : goal.returns-in-Some
returns-in-Some c =
    let rs : List Response = c.args.responses.now in
    let i : ℕ = c.loop-response.response-index in
    let r : Response = c.response-item.result in
    let within : i < length rs = omega (arith, c.loop-response-test.true) in
    let here : drop i rs ≡ r ∷ drop (i + 1) rs = left rs i r within c.response-item.is in
    told_first c.args.validity c.args.uid r (drop (i + 1) rs) c.args.code.now c.in-Some.to c.in-Some.ensures
    ∙ (sym (ap (λ (zs : List Response). first_told c.args.validity c.args.uid zs c.args.code.now) here) ∙ c.loop-response.invariant)

pub returns : goal.returns
returns c =
    let rs : List Response = c.args.responses.now in
    let i : ℕ = c.loop-response.response-index in
    c.copied_to.ensures
    ∙ (told_last c.args.validity c.args.uid c.args.code.now
    ∙ (sym (ap (λ (zs : List Response). first_told c.args.validity c.args.uid zs c.args.code.now) (none_left rs i (omega (arith, c.loop-response-test.false))))
    ∙ c.loop-response.invariant))
