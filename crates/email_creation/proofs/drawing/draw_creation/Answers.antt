use Rattle.std.proofs.Common.{◌≡◌, ℤ, ap, ◌∙◌, subst, unwrap_or, w64, to_z, of_z}
use Rattle.std.proofs.lemmas.Int.{to_z-of_z}
use Rattle.mail_drafts.specs.declared.error.BuildError.{BuildError}
use Rattle.message_texts.specs.Messages.{IsMessageText, IsTooLarge, IsBuildFailure}
use Rattle.message_texts.specs.declared.message.TheConstants.{MAX_MESSAGE_OCTETS}
use Rattle.email_creation.specs.Appends.{append_of}
use Rattle.email_creation.proofs.DrawLemmas.{written_is, too_long_is}
use Rattle.email_creation.proofs.drawing.draw_creation.Goals as goal

-- the seconds fit, so the values that are passed are these themselves
pub returns-in-Ok : goal.returns-in-Ok
returns-in-Ok c =
    let now_is : to_z w64 (of_z w64 c.args.now) ≡ c.args.now = to_z-of_z w64 c.args.now c.ranges.now in
    let date_is : to_z w64 (of_z w64 c.unwrap_or-date.result) ≡ unwrap_or c.args.ready.date c.args.now =
    to_z-of_z w64 c.unwrap_or-date.result (record { sfits = c.unwrap_or-date.type_inv }) ∙ c.unwrap_or-date.ensures ∙ ap (λ (z : ℤ). unwrap_or c.args.ready.date z) now_is in
    written_is c.args.ready c.args.now c.args.word c.in-Ok.message c.in_ok-append_job-in-Ok.field-0
    (subst (λ (z : ℤ). IsMessageText c.args.ready.draft z c.args.word c.in-Ok.message) now_is c.in-Ok.ensures.message) c.in-Ok.ensures.fits
    (c.in_ok-append_job-in-Ok.ensures ∙ ap (λ (z : ℤ). append_of c.args.ready.name c.args.ready.flags z c.in-Ok.message) date_is)

pub returns-in-Err-TooLarge : goal.returns-in-Err-TooLarge
returns-in-Err-TooLarge c =
    let now_is : to_z w64 (of_z w64 c.args.now) ≡ c.args.now = to_z-of_z w64 c.args.now c.ranges.now in
    too_long_is c.args.ready c.args.now c.args.word c.in-Err-TooLarge.field-0-0
    (subst (λ (z : ℤ). IsTooLarge MAX_MESSAGE_OCTETS c.args.ready.draft z c.args.word c.in-Err-TooLarge.field-0-0) now_is
    (subst (λ (e : BuildError). IsBuildFailure MAX_MESSAGE_OCTETS c.args.ready.draft (to_z w64 (of_z w64 c.args.now)) c.args.word e) c.in-Err-TooLarge.field-0-is
    c.in-Err-TooLarge.ensures.refused))
