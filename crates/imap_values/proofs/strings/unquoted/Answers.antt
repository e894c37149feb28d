use Rattle.std.proofs.Common.{◌+◌, Bool, false, List, ℕ, drop, get_or, Vec, Global, ap, sym, ◌∙◌}
use Rattle.std.proofs.lemmas.Bool.{eq-eqb, ne_eqb}
use Rattle.imap_values.specs.Strings.{unquoted}
use Rattle.imap_values.proofs.StringLemmas.{so_far, end_of, close_of, octet_of, pair_of, unquoted_slash}
use Rattle.imap_values.proofs.strings.unquoted.Goals as goal
use Rattle.imap_values.proofs.strings.unquoted.Goals.{then-pair+in_ok-push, else-pair+else-c-eq34+then-c-eq92, else-pair+else-c-eq34+else-c-eq92+in_ok-push-2}

pub loop-i-preserved : goal.loop-i-preserved
loop-i-preserved c =
    let b = c.args.bytes.now in
    let i = c.loop-i.i in
    let t = c.loop-i.text.items in
    let lt = c.loop-i-test.true in
    let rest = drop (i + 1) b in
    elim c.if-pair.branch [
      | then-pair+in_ok-push w ↦ (
          ap (λ (v : Vec ℕ Global). so_far v.items (unquoted c.if-pair.pair rest)) w.text-is
          ∙ ap (λ (p : Bool). so_far w.push.new.self.items (unquoted p rest)) w.pair-is
          ∙ ap (λ (u : List ℕ). so_far u (unquoted false rest)) w.in_ok-push.ensures.items
          ∙ pair_of t b i lt ∙ ap (λ (p : Bool). so_far t (unquoted p (drop i b))) (sym w.if-pair.true) ∙ c.loop-i.invariant)
      | else-pair+else-c-eq34+then-c-eq92 w ↦ (
          ap (λ (v : Vec ℕ Global). so_far v.items (unquoted c.if-pair.pair rest)) w.text-is
          ∙ ap (λ (p : Bool). so_far t (unquoted p rest)) w.pair-is
          ∙ ap (so_far t) (sym (unquoted_slash b i lt (ne_eqb (get_or b i 0) 34 w.if-c-eq34.false) (eq-eqb (get_or b i 0) 92 w.if-c-eq92.true)))
          ∙ ap (λ (p : Bool). so_far t (unquoted p (drop i b))) (sym w.if-pair.false) ∙ c.loop-i.invariant)
      | else-pair+else-c-eq34+else-c-eq92+in_ok-push-2 w ↦ (
          ap (λ (v : Vec ℕ Global). so_far v.items (unquoted c.if-pair.pair rest)) w.text-is
          ∙ ap (λ (p : Bool). so_far w.push-else-c-eq92.new.self.items (unquoted p rest)) (w.pair-is ∙ w.if-pair.false)
          ∙ ap (λ (u : List ℕ). so_far u (unquoted false rest)) w.in_ok-push-2.ensures.items
          ∙ octet_of t b i lt (ne_eqb (get_or b i 0) 34 w.if-c-eq34.false) (ne_eqb (get_or b i 0) 92 w.if-c-eq92.false)
          ∙ ap (λ (p : Bool). so_far t (unquoted p (drop i b))) (sym w.if-pair.false) ∙ c.loop-i.invariant)
    ]

pub returns-then-c-eq34-clause-text : goal.returns-then-c-eq34-clause-text
returns-then-c-eq34-clause-text c =
    let b = c.args.bytes.now in
    let i = c.loop-i.i in
    let t = c.loop-i.text.items in
    ap (λ (r : List ℕ × List ℕ). r.0) (
    close_of t b i c.loop-i-test.true (eq-eqb (get_or b i 0) 34 c.if-c-eq34.true)
    ∙ ap (λ (p : Bool). so_far t (unquoted p (drop i b))) (sym c.if-pair.false) ∙ c.loop-i.invariant)

pub returns-then-c-eq34-clause-rest : goal.returns-then-c-eq34-clause-rest
returns-then-c-eq34-clause-rest c =
    let b = c.args.bytes.now in
    let i = c.loop-i.i in
    let t = c.loop-i.text.items in
    c.behind.ensures
    ∙ ap (λ (r : List ℕ × List ℕ). r.1) (
    close_of t b i c.loop-i-test.true (eq-eqb (get_or b i 0) 34 c.if-c-eq34.true)
    ∙ ap (λ (p : Bool). so_far t (unquoted p (drop i b))) (sym c.if-pair.false) ∙ c.loop-i.invariant)

pub returns-clause-text : goal.returns-clause-text
returns-clause-text c =
    let b = c.args.bytes.now in
    let t = c.loop-i.text.items in
    ap (λ (r : List ℕ × List ℕ). r.0) (end_of c.loop-i.pair t b c.loop-i.i c.loop-i-test.false ∙ c.loop-i.invariant)

pub returns-clause-rest : goal.returns-clause-rest
returns-clause-rest c =
    let b = c.args.bytes.now in
    let t = c.loop-i.text.items in
    ap (λ (r : List ℕ × List ℕ). r.1) (end_of c.loop-i.pair t b c.loop-i.i c.loop-i-test.false ∙ c.loop-i.invariant)
