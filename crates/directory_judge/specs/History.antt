-- What happened to a directory: its changes, the newest first.
use Rattle.std.specs.Prelude.{ℕ, max, List, [], ◌∷◌, Option, None}
use Rattle.std.specs.Option.{option_or}
use Rattle.access_rules.specs.Deciding.{SiteRules}
use Rattle.attr_list.specs.Lists.{Attributes}
use Rattle.slp_tags.specs.Tags.{Part}

-- a registration, and who asked for it
pub record Putting : Type 0 where
  pub asker : ℕ
  pub url : List ℕ
  pub language : List ℕ
  pub kind : List ℕ
  pub scopes : List (List ℕ)
  pub attributes : Attributes
  pub lifetime : ℕ

-- an update, which sets tags
pub record Setting : Type 0 where
  pub url : List ℕ
  pub language : List ℕ
  pub attributes : Attributes
  pub lifetime : ℕ

-- a withdrawal of tags
pub record Removing : Type 0 where
  pub url : List ℕ
  pub language : List ℕ
  pub tags : List Part

-- the end of a URL in every language
pub record Withdrawing : Type 0 where
  pub url : List ℕ
  pub scopes : List (List ℕ)

-- what is done to a history: the four kinds of change, a sweep, and a reload of the rules
pub data Act : Type 0 where
  Put : Putting → Act
  Set : Setting → Act
  Remove : Removing → Act
  Withdraw : Withdrawing → Act
  Sweep : Act
  Reload : SiteRules → Act

-- a change, with its moment in seconds
pub record Event : Type 0 where
  pub moment : ℕ
  pub act : Act

-- the newest first: h followed by c is c ∷ h
abbrev pub History : Type 0
History = List Event

-- the greatest moment
abbrev pub clock : History → ℕ
clock [] = 0
clock (c ∷ h) = max c.moment (clock h)

-- the moment at which a call at m acts
abbrev pub now : History → ℕ → ℕ
now h m = max m (clock h)

-- what the last event says, of those of which f says something
abbrev pub last_that : {A : Type 0} → (Event → Option A) → History → Option A
last_that f [] = None
last_that f (c ∷ h) = option_or (f c) (last_that f h)
