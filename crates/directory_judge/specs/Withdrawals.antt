-- What a withdrawal is of.
use Rattle.std.specs.Prelude.{List, ℕ, Option, Some, None}
use Rattle.slp_text.specs.Sets.{common_keys}
use Rattle.directory_judge.specs.Sites.{Site}
use Rattle.directory_judge.specs.declared.change.Withdrawn.{Withdrawn}

-- by its URL and its scopes, where both are read: the URL, and those of the scopes that the site supports
abbrev pub withdrawal_of_texts : Site → Option (List ℕ) → Option (List (List ℕ)) → Option Withdrawn
withdrawal_of_texts site (Some url) (Some scopes) = Some (record { url = url; scopes = common_keys site.scopes scopes })
withdrawal_of_texts site (Some url) None = None
withdrawal_of_texts site None scopes = None
