-- What a directory begins with, and what is asked of it.
use Rattle.std.specs.Prelude.{ℕ, List}
use Rattle.access_rules.specs.Deciding.{SiteRules}
use Rattle.directory_judge.specs.History.{History}
use Rattle.directory_judge.specs.Sites.{Site}
use Rattle.directory_questions.specs.declared.call.Call as code

-- the rules and the site that it begins with
pub record Opening : Type 0 where
  pub rules : SiteRules
  pub site : Site

-- where a question stands: what the directory began with, what has happened since, when it is asked, in seconds, and by whom
pub record Standpoint : Type 0 where
  pub opening : Opening
  pub history : History
  pub moment : ℕ
  pub asker : ℕ

-- where an asker stands: an opening, a history, a moment, and the address of the asker
abbrev pub standpoint : Opening → History → ℕ → ℕ → Standpoint
standpoint o h m asker = record { opening = o; history = h; moment = m; asker = asker }

-- bytes that an asker sends at a moment, in seconds, to an address of the directory, and how many bytes a reply may have
pub record Call : Type 0 where
  pub own : ℕ
  pub moment : ℕ
  pub asker : ℕ
  pub bytes : List ℕ
  pub limit : ℕ

-- where a call stands
abbrev pub standpoint_of : Opening → History → Call → Standpoint
standpoint_of o h c = standpoint o h c.moment c.asker

-- what is asked, wherever its bytes lie
abbrev pub call_in : code.Call → Call
call_in c = record { own = c.own; moment = c.moment; asker = c.asker; bytes = c.bytes.now; limit = c.limit }
