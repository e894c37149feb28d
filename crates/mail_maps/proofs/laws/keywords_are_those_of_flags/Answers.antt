use Rattle.std.proofs.Common.{nat_cmp, List, ℕ, []}
use Rattle.std.proofs.lemmas.Cmp.{nat_list_cmp_total}
use Rattle.std.specs.Cmp.Lexicographic.{slice_cmp}
use Rattle.std.specs.List.{flat_map}
use Rattle.mail_maps.specs.Keywords.{keyword_of}
use Rattle.mail_maps.proofs.MemberLemmas.{into_sorted}
use Rattle.mail_maps.proofs.SameKeywords.{has_all}
use Rattle.mail_maps.proofs.laws.keywords_are_those_of_flags.Goals as goal

pub returns : goal.returns
returns c = record {
  members = λ flags keyword. has_all keyword [] (flat_map keyword_of flags);
  order = λ flags. into_sorted (slice_cmp nat_cmp) nat_list_cmp_total (flat_map keyword_of flags);
}
