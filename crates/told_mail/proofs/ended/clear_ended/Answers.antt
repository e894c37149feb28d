use Rattle.std.proofs.Common.{◌≡◌, ◌∙◌, ◌<◌, ◌++◌, ◌∷◌, ◌+◌, ℕ, Bool, true, false, List, sym, subst, arith, filter, take, drop, length}
use Rattle.told_folder.specs.declared.message.NumberedFolder.{NumberedFolder}
use Rattle.told_mail.specs.reading.Index.{IsMirror}
use Rattle.told_mail.specs.reading.Lines.{is_listed}
use Rattle.told_mail.proofs.ListLemmas.{told_more, told_end, ended_before, ended_after}
use Rattle.told_mail.proofs.ToldLemmas.{one_ended}
use Rattle.told_mail.proofs.ended.clear_ended.Goals as goal
use Rattle.told_mail.proofs.ended.clear_ended.Goals.{then-not-has_line, else-not-has_line}

pub loop-held-preserved : goal.loop-held-preserved
loop-held-preserved c =
    let hs : List NumberedFolder = c.args.folders.now in
    let p : NumberedFolder → Bool = is_listed c.args.lines.now in
    let i : ℕ = c.loop-held.held-index in
    let h : NumberedFolder = c.held-item.result in
    let within : i < length hs = omega (arith, c.loop-held-test.true) in
    let test : c.has_line.result ≡ p h = rw c.as_slice.ensures at c.has_line.ensures in
    elim c.if-not-has_line.branch [
      | then-not-has_line w ↦ λ n m start.
          let ends : p h ≡ false = sym test ∙ w.if-not-has_line.true in
          let was : IsMirror (filter p (take i hs) ++ h ∷ drop (i + 1) hs) c.loop-held.marks c.loop-held.numbers n m =
          subst (λ (zs : List NumberedFolder). IsMirror zs c.loop-held.marks c.loop-held.numbers n m) (ended_before p hs i h within c.held-item.is) (c.loop-held.invariant n m start) in
          rw (w.marks-is, w.numbers-is) (subst (λ (zs : List NumberedFolder). IsMirror zs w.clear_folder.new.marks w.clear_folder.new.numbers n m)
          (ended_after p hs i h within c.held-item.is ends)
          (one_ended (filter p (take i hs)) (drop (i + 1) hs) h c.loop-held.marks w.clear_folder.new.marks c.loop-held.numbers w.clear_folder.new.numbers n m
          w.clear_folder.ensures.marks
          w.clear_folder.ensures.names was))
      | else-not-has_line w ↦ λ n m start.
          let stays : p h ≡ true = sym test ∙ w.if-not-has_line.false in
          rw (w.marks-is, w.numbers-is) (subst (λ (zs : List NumberedFolder). IsMirror zs c.loop-held.marks c.loop-held.numbers n m) (told_more p hs i h within c.held-item.is stays)
          (c.loop-held.invariant n m start))
    ]

pub returns : goal.returns
returns c = λ n m start.
    let hs : List NumberedFolder = c.args.folders.now in
    subst (λ (zs : List NumberedFolder). IsMirror zs c.loop-held.marks c.loop-held.numbers n m)
    (told_end (is_listed c.args.lines.now) hs c.loop-held.held-index (omega (arith, c.loop-held-test.false)))
    (c.loop-held.invariant n m start)
