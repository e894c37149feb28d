use Rattle.std.proofs.Common.{List, ℕ, length}
use Rattle.thread_rule.specs.Subject.{IsMarkBehindBlobs}
use Rattle.thread_rule.specs.BaseSubject.{Drops}
use Rattle.thread_rule.proofs.subject.behind_marked.Given as goal

-- a mark stands after blobs of the text exactly where it does of the rest
abbrev pub invariant-loop-behind : goal.invariant-loop-behind
invariant-loop-behind l = record {
  text_of_rest : (t : List ℕ) → Drops IsMarkBehindBlobs l.rest t → Drops IsMarkBehindBlobs l.text t;
  rest_of_text : (t : List ℕ) → Drops IsMarkBehindBlobs l.text t → Drops IsMarkBehindBlobs l.rest t;
}

abbrev pub decreases-loop-behind : goal.decreases-loop-behind
decreases-loop-behind l = length l.rest
