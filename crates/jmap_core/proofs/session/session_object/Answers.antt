use Rattle.std.proofs.Common.{◌≡◌, ℕ, List, refl, ap, ◌∙◌}
use Rattle.serde_json.specs.Data.{Data, object, Members, member}
use Rattle.serde_json.proofs.Views.{view-Object}
use Rattle.serde_json.proofs.OnLiterals.{serde_json_on_literals}
use Rattle.jmap_core.proofs.session.session_object.Goals as goal

same : (key : List ℕ) {d e : Data} {ms ns : Members} → d ≡ e → ms ≡ ns → member key d ms ≡ member key e ns
same key p q = cc

pub returns : goal.returns
unfolding serde_json_on_literals
returns c = view-Object c.put-9.new.map ∙ ap object (rw (
  c.in_ok-put-9.ensures.ok,
  c.in_ok-put-8.ensures.ok,
  c.in_ok-put-7.ensures.ok,
  c.in_ok-put-6.ensures.ok,
  c.in_ok-put-5.ensures.ok,
  c.in_ok-put-4.ensures.ok,
  c.in_ok-put-3.ensures.ok,
  c.in_ok-put-2.ensures.ok,
  c.in_ok-put.ensures.ok,
  c.new-session.ensures.empty,
)
    (same _ c.in_ok-accounts.ensures (same _ c.in_ok-urls.ensures.api (same _ c.in_ok-capabilities.ensures (same _ c.in_ok-urls.ensures.download
    (same _ c.in_ok-urls.ensures.events (same _ c.in_ok-primary.ensures (same _ c.in_ok-state.ensures (same _ c.in_ok-urls.ensures.upload
    (same _ c.in_ok-name.ensures refl))))))))))
