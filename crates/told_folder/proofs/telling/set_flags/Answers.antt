use Rattle.std.proofs.Common.{◌≡◌, ◌∙◌, ℕ, List, refl, sym, ap, arith, true, false}
use Rattle.std.proofs.lemmas.Result.{err_from_is_err_and}
use Rattle.told_folder.specs.Folders.{uid_of}
use Rattle.told_folder.specs.Keyed.{put_keyed}
use Rattle.told_folder.proofs.OpenLemmas.{stays_flagged}
use Rattle.told_folder.proofs.PartLemmas.{put_found}
use Rattle.told_folder.proofs.VanishLemmas.{true_is_not_false}
use Rattle.told_folder.proofs.telling.set_flags.Goals as goal

pub returns-then-is_flagged : goal.returns-then-is_flagged
returns-then-is_flagged c = λ x found.
    let same : x.flags ≡ c.args.flags.now = (c.is_flagged.ensures x found).0 c.if-is_flagged.true in
    record {
      on = record { folder = refl; rises = omega arith; stands = λ e l. refl; draws = λ e l. refl };
      marks = refl;
      next_mark = refl;
      told = sym (ap (λ (fs : List (List ℕ)). put_keyed uid_of (record x { flags = fs }) c.args.work.now.messages) (sym same)
          ∙ put_found c.args.uid x c.args.work.now.messages c.requires found);
      err = tt;
      known = λ e. refl;
    }

pub returns-in_err-flags : goal.returns-in_err-flags
returns-in_err-flags c = λ x found. rw (err_from_is_err_and c.from_residual.result c.from_residual.ensures.1).1 (stays_flagged c.args.work.now x c.args.flags.now _)

pub returns : goal.returns
returns c = λ x found. record {
  on = record {
    folder = refl;
    rises = omega (arith, c.one_more-work.ensures);
    stands = λ e l. absurd (omega (arith, e, l, c.one_more-work.ensures));
    draws = λ e l. refl;
  };
  marks = refl;
  next_mark = refl;
  told = c.set_flags.ensures.held x found ∙ ap (λ (fs : List (List ℕ)). put_keyed uid_of (record x { flags = fs }) c.args.work.now.messages) c.in_ok-flags.ensures;
  err = tt;
  known = λ e. absurd (true_is_not_false true (sym ((c.is_flagged.ensures x found).1 e) ∙ c.if-is_flagged.false));
}
