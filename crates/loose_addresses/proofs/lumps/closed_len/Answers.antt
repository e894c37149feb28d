use Rattle.std.proofs.Common.{inl, inr}
use Rattle.loose_addresses.proofs.ElementLemmas.{lump_closed, none_closed}
use Rattle.loose_addresses.proofs.lumps.closed_len.Goals as goal

pub returns-in-Some : goal.returns-in-Some
returns-in-Some c = lump_closed c.args.text.now c.in-Some.comment.now c.in-Some.field-0-1.now (inr (inl c.in-Some.ensures.0)) c.in-Some.ensures.1

pub returns-in-Some-quoted_at : goal.returns-in-Some-quoted_at
returns-in-Some-quoted_at c =
    lump_closed c.args.text.now c.in-Some-quoted_at.quoted.now c.in-Some-quoted_at.field-0-1.now (inl c.in-Some-quoted_at.ensures.0) c.in-Some-quoted_at.ensures.1

pub returns-in-Some-literal_at : goal.returns-in-Some-literal_at
returns-in-Some-literal_at c =
    lump_closed c.args.text.now c.in-Some-literal_at.literal.now c.in-Some-literal_at.field-0-1.now (inr (inr (inl c.in-Some-literal_at.ensures.0)))
    c.in-Some-literal_at.ensures.1

pub returns-in-Some-angle_at : goal.returns-in-Some-angle_at
returns-in-Some-angle_at c =
    lump_closed c.args.text.now c.in-Some-angle_at.angle.now c.in-Some-angle_at.field-0-1.now (inr (inr (inr c.in-Some-angle_at.ensures.0))) c.in-Some-angle_at.ensures.1

pub returns : goal.returns
returns c =
    none_closed c.args.text.now c.in_default.ensures c.in_default-quoted_at.ensures c.in_default-literal_at.ensures c.in_default-angle_at.ensures
