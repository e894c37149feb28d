-- The texts that parts share.
use Rattle.std.specs.Prelude.{◌≡◌}
use Rattle.mime_tree.specs.Heads.{text_plain, message_rfc822, us_ascii, seven_bit}
use Rattle.mime_tree.specs.declared.shared.SharedTexts.{SharedTexts}

pub record AreShared (u : SharedTexts) : Type 0 where
  pub text_plain : u.text_plain ≡ text_plain
  pub message_rfc822 : u.message_rfc822 ≡ message_rfc822
  pub us_ascii : u.us_ascii ≡ us_ascii
  pub seven_bit : u.seven_bit ≡ seven_bit
