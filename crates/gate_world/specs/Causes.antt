-- Counts of faults, and what an error has to do with them.
use Rattle.std.specs.Prelude.{◌≡◌, ◌+◌, ◌-◌, ◌^◌, ◌≤◌, ℕ, List, min}

-- the count rose this many times; one that stands at its end counts as one that rose
abbrev pub RoseBy : ℕ → ℕ → ℕ → Type 0
RoseBy times before now = min (before + times) (2 ^ 64 - 1) ≤ now

-- the count rose
abbrev pub Rose : ℕ → ℕ → Type 0
Rose before now = RoseBy 1 before now

-- how often each part of the outside has failed
pub record Faults : Type 0 where
  pub link : ℕ
  pub keep : ℕ
  pub front : ℕ
  pub say : ℕ

-- no part has failed
abbrev pub no_faults : Faults
no_faults = record { link = 0; keep = 0; front = 0; say = 0 }

-- no part has failed since
abbrev pub NoFault : Faults → Faults → Type 0
NoFault before now = now ≡ before

-- the link alone may have failed since
pub record LinkAlone (before now : Faults) : Type 0 where
  pub link : before.link ≤ now.link
  pub keep : now.keep ≡ before.keep
  pub front : now.front ≡ before.front
  pub say : now.say ≡ before.say

-- the keeper alone may have failed since
pub record KeepAlone (before now : Faults) : Type 0 where
  pub link : now.link ≡ before.link
  pub keep : before.keep ≤ now.keep
  pub front : now.front ≡ before.front
  pub say : now.say ≡ before.say

-- the front alone may have failed since
pub record FrontAlone (before now : Faults) : Type 0 where
  pub link : now.link ≡ before.link
  pub keep : now.keep ≡ before.keep
  pub front : before.front ≤ now.front
  pub say : now.say ≡ before.say

-- the console alone may have failed since
pub record SayAlone (before now : Faults) : Type 0 where
  pub link : now.link ≡ before.link
  pub keep : now.keep ≡ before.keep
  pub front : now.front ≡ before.front
  pub say : before.say ≤ now.say

-- the counts have not fallen
pub record Later (before now : Faults) : Type 0 where
  pub link : before.link ≤ now.link
  pub keep : before.keep ≤ now.keep
  pub front : before.front ≤ now.front
  pub say : before.say ≤ now.say

-- what the program is told to keep to itself
pub record Hidden : Type 0 where
  pub password : List ℕ
  pub token : List ℕ
