-- What is read of a message that asks for a change, before rules and registry are asked.
use Rattle.std.specs.Prelude.{◌≡◌, ℕ, List, Option, Some, None}
use Rattle.std.specs.Arc.{arc_value}
use Rattle.std.specs.Option.{option_map}
use Rattle.std.specs.Result.{result_ok}
use Rattle.slp_messages.specs.Views.{header_in, registration_in, withdrawal_in}
use Rattle.slp_messages.specs.declared.message.Message.{Message}
use Rattle.slp_messages.specs.declared.message.Message.TheVariants as message
use Rattle.slp_messages.specs.declared.message.Withdrawal.{Withdrawal}
use Rattle.slp_scopes.specs.Scopes.{scopes_of}
use Rattle.slp_tags.specs.Tags.{Part, tags_of}
use Rattle.service_url.specs.Urls.{url_of}
use Rattle.directory_judge.specs.Judgements.{particulars, particulars_in, AreParticularsOf}
use Rattle.directory_judge.specs.Sites.{Site}
use Rattle.directory_judge.specs.Withdrawals.{withdrawal_of_texts}
use Rattle.directory_judge.specs.declared.change.Withdrawn.{Withdrawn}
use Rattle.directory_judge.specs.declared.change.Withdrawing.{Withdrawing}
use Rattle.directory_judge.specs.declared.reading.ReadChange.{ReadChange}
use Rattle.directory_judge.specs.declared.reading.ReadChange.TheVariants as read

-- the tags of a withdrawal and what it is of, where its texts are read
abbrev pub withdrawing_of_texts : Site → Option (List ℕ) → Option (List Part) → Option (List (List ℕ)) → Option (List Part × Withdrawn)
withdrawing_of_texts site url (Some tags) scopes = option_map (λ (w : Withdrawn). (tags, w)) (withdrawal_of_texts site url scopes)
withdrawing_of_texts site url None scopes = None

abbrev pub withdrawing_of : Site → Withdrawal → Option (List Part × Withdrawn)
withdrawing_of site w = withdrawing_of_texts site (result_ok (url_of w.entry.url)) (result_ok (tags_of w.tags)) (result_ok (scopes_of w.scopes))

-- what the code finds of it
abbrev pub withdrawing_in : Withdrawing → List Part × Withdrawn
withdrawing_in w = (w.tags, arc_value w.withdrawn)

-- the message of which it was read
abbrev pub message_read : ReadChange → Message
message_read (read.Registration h r reading) = message.Registration (header_in h) (registration_in r)
message_read (read.Withdrawal h w reading) = message.Withdrawal (header_in h) (withdrawal_in w)

-- it is what the texts of the message say at a site
abbrev pub IsReadAt : Site → ReadChange → Type 0
IsReadAt site (read.Registration h r reading) = (particulars site (header_in h) (registration_in r) ≡ particulars_in reading) × AreParticularsOf r.entry.url.now reading
IsReadAt site (read.Withdrawal h w reading) = option_map withdrawing_in reading ≡ withdrawing_of site (withdrawal_in w)
