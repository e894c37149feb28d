use Rattle.std.proofs.Common.{◌||◌, ℕ, List, Bor, Some, Option, cond, nat_cmp, nat_eq, ap, ◌∙◌, bytes_eq}
use Rattle.std.specs.BTreeMap.{get_by}
use Rattle.std.specs.Cmp.Lexicographic.{slice_cmp}
use Rattle.std.proofs.lemmas.Map.Text.{btree_map_updates_str}
use Rattle.set_given.proofs.NumberLemmas.{number_put}
use Rattle.set_given.proofs.TextLemmas.{turned}
use Rattle.set_given.proofs.made.MadeFolders.add.Goals as goal

pub returns-in-Ok-clause-ok : goal.returns-in-Ok-clause-ok
returns-in-Ok-clause-ok c s is =
    let number = c.args.number in
    record {
      by_key = λ key.
          let before : Option ℕ = get_by {K = Bor (List ℕ)} (λ k. slice_cmp nat_cmp key k.now) c.args.self.now.by_key in
          btree_map_updates_str c.args.key.now c.args.self.now.by_key c.insert-2.new.self (Some number) c.in-Ok.ensures.updates key
          ∙ ap (λ b. cond b (Some number) before) (turned c.args.key.now key)
          ∙ ap (λ (o : Option ℕ). cond (bytes_eq key c.args.key.now) (Some number) o) (is.by_key key);
      numbers = λ n. c.in_ok-added.ensures.updates.0 n ∙ number_put number n _ ∙ ap (λ b. nat_eq number n || b) (is.numbers n);
    }
