use Rattle.std.proofs.Common.{arith, ◌≡◌, ◌++◌, ◌∷◌, ℕ, List, length, Some, None, sym, ap, ◌∙◌}
use Rattle.std.proofs.lemmas.Str.Pattern.{split_parts}
use Rattle.jmap_arguments.specs.State.{hex_text}
use Rattle.jmap_arguments.specs.declared.state.State.{State}
use Rattle.jmap_arguments.proofs.HexReading.{length-hex}
use Rattle.jmap_arguments.proofs.StateParts.{has_dash, parts_of, one_state}
use Rattle.jmap_arguments.proofs.state.read_state.Goals as goal

pub returns-in_err-epoch-clause-none : goal.returns-in_err-epoch-clause-none
returns-in_err-epoch-clause-none c = λ none of fits is.
    has_dash c.args.text.now of (split_parts 45 c.args.text.now None c.in_err-epoch.ensures.cases (omega arith)) is

pub returns-then-epoch-clause-none : goal.returns-then-epoch-clause-none
returns-then-epoch-clause-none c = λ none of fits is.
    let cut = split_parts 45 c.args.text.now (Some (c.in_ok-epoch.epoch, c.in_ok-epoch.place)) c.in_ok-epoch.ensures.cases (omega arith) in
    let parts = parts_of c.args.text.now c.in_ok-epoch.epoch.now c.in_ok-epoch.place.now of cut.0 cut.1 is in
    c.if-epoch.true (ap (λ (l : List ℕ). length l) parts.0 ∙ length-hex 16 of.epoch)

pub returns-in_err-hex_number-clause-none : goal.returns-in_err-hex_number-clause-none
returns-in_err-hex_number-clause-none c = λ none of fits is.
    let cut = split_parts 45 c.args.text.now (Some (c.in_ok-epoch.epoch, c.in_ok-epoch.place)) c.in_ok-epoch.ensures.cases (omega arith) in
    let parts = parts_of c.args.text.now c.in_ok-epoch.epoch.now c.in_ok-epoch.place.now of cut.0 cut.1 is in
    let digits : c.as_bytes.result.now ≡ hex_text 16 of.epoch = c.as_bytes.ensures.value ∙ parts.0 in
    let long : length c.as_bytes.result.now ≡ 16 = ap (λ (l : List ℕ). length l) digits ∙ length-hex 16 of.epoch in
    c.hex_number.ensures.none c.in_err-hex_number.was of.epoch (digits ∙ ap (λ (k : ℕ). hex_text k of.epoch) (sym long))

pub returns-in_err-decimal_number-clause-none : goal.returns-in_err-decimal_number-clause-none
returns-in_err-decimal_number-clause-none c = λ none of fits is.
    let cut = split_parts 45 c.args.text.now (Some (c.in_ok-epoch.epoch, c.in_ok-epoch.place)) c.in_ok-epoch.ensures.cases (omega arith) in
    let parts = parts_of c.args.text.now c.in_ok-epoch.epoch.now c.in_ok-epoch.place.now of cut.0 cut.1 is in
    c.decimal_number.ensures.none c.in_err-decimal_number.was of.place fits parts.1

pub returns-clause-some : goal.returns-clause-some
returns-clause-some c =
    let cut = split_parts 45 c.args.text.now (Some (c.in_ok-epoch.epoch, c.in_ok-epoch.place)) c.in_ok-epoch.ensures.cases (omega arith) in
    let long : length c.as_bytes.result.now ≡ 16 = ap (λ (l : List ℕ). length l) c.as_bytes.ensures.value ∙ c.if-epoch.false in
    let epoch_is : c.in_ok-epoch.epoch.now ≡ hex_text 16 c.in_ok-hex_number.field-0 =
    sym c.as_bytes.ensures.value ∙ c.in_ok-hex_number.ensures.some.1 ∙ ap (λ (k : ℕ). hex_text k c.in_ok-hex_number.field-0) long in
    cut.0 ∙ ap (λ (e : List ℕ). e ++ 45 ∷ c.in_ok-epoch.place.now) epoch_is
    ∙ ap (λ (p : List ℕ). hex_text 16 c.in_ok-hex_number.field-0 ++ 45 ∷ p) c.in_ok-decimal_number.ensures.some

pub returns-clause-one : goal.returns-clause-one
returns-clause-one c = λ of epoch_fits place_fits is.
    let read : State = record { epoch = c.in_ok-hex_number.field-0; place = c.in_ok-decimal_number.field-0 } in
    one_state of read epoch_fits (omega arith) place_fits (omega arith) (sym is ∙ returns-clause-some c)
