use Rattle.std.proofs.Common.{◌≡◌, ◌∙◌, ◌<◌, ◌+◌, ◌∷◌, ℕ, List, length, arith, ap, sym, drop}
use Rattle.told_folder.proofs.StepLemmas.{left}
use Rattle.told_mail.specs.Lists.{with_new_folders}
use Rattle.told_mail.specs.Mail.{Mail}
use Rattle.told_mail.proofs.ListLemmas.{rises_on}
use Rattle.told_mail.proofs.NameLemmas.{free_rest}
use Rattle.told_mail.proofs.NumberLemmas.{numbers_on}
use Rattle.told_mail.proofs.mirror.Mirror.add_folders.Goals as goal

pub loop-name-preserved : goal.loop-name-preserved
loop-name-preserved c =
    let rs = c.args.responses.now in
    let names : List (List ℕ) = c.args.names.now in
    let i : ℕ = c.loop-name.name-index in
    let within : i < length names = omega (arith, c.loop-name-test.true) in
    let here : drop i names ≡ c.name-item.result ∷ drop (i + 1) names = left names i c.name-item.result within c.name-item.is in
    record {
      mail = ap (λ (k : Mail). with_new_folders rs k (drop (i + 1) names)) c.in_ok-add_folder.ensures.ok
          ∙ sym (ap (λ (qs : List (List ℕ)). with_new_folders rs c.loop-name.self.mail qs) here) ∙ c.loop-name.invariant.mail;
      known = λ e. let none : length names ≡ 0 = ap length e in absurd (omega (arith, none, within));
      counts = rises_on _ _ _ c.loop-name.invariant.counts c.in_ok-add_folder.ensures.counts;
      numbers = numbers_on _ _ _ c.loop-name.invariant.numbers c.in_ok-add_folder.ensures.numbers;
      free = free_rest rs c.loop-name.self.mail c.add_folder.new.self.mail names i c.name-item.result within c.name-item.is c.requires.apart c.loop-name.invariant.free
          c.in_ok-add_folder.ensures.ok;
    }
