use Rattle.std.proofs.Common.{◌≡◌, ℕ, Bool, true, false, cond, List, length, Some, Ok, Err, sym, subst, ◌∙◌}
use Rattle.std.specs.Prelude.{nat_lt, IfOk}
use Rattle.std.specs.Result.{result_ok}
use Rattle.std.proofs.lemmas.Option.{none-some, same_Some}
use Rattle.service_url.specs.Urls.{url_of, is_url, longest_url}
use Rattle.service_url.specs.declared.fault.UrlFault.TheVariants.{BadUrl, TooLong}
use Rattle.directory_judge.specs.Judgements.{AreParticularsOf}
use Rattle.directory_judge.proofs.particulars.name.Goals as goal

-- a URL that is read has the bytes of its text
read-same : (long fine : Bool) (text url : List ℕ) → result_ok (cond long (Err TooLong) (cond fine (Ok text) (Err BadUrl))) ≡ Some url → text ≡ url
read-same true fine text url h = absurd (none-some url h)
read-same false true text url h = same_Some text url h
read-same false false text url h = absurd (none-some url h)

pub returns-in-Some-2-clause-url : goal.returns-in-Some-2-clause-url
returns-in-Some-2-clause-url c =
    let text = c.args.registration.now.entry.url.now in
    let read : result_ok (url_of text) ≡ Some c.in-Some-2.url = sym c.in_ok-url.ensures ∙ c.in-Some-2.is in
    subst (λ u. IfOk c.name_read.result (AreParticularsOf u)) (sym (read-same (nat_lt longest_url (length text)) (is_url text) text c.in-Some-2.url read)) c.name_read.ensures.url
