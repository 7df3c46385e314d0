-- What the tool prints and answers.
use Rattle.std.specs.Prelude.{ℕ, List, [], ◌∷◌, ◌++◌, flat_map, codes, if◌then◌else◌}
use Rattle.std.specs.List.{slice_split}
use Rattle.std.specs.Fmt.{decimal}
use Rattle.agent_clients.specs.declared.fault.ClientFault.{ClientFault}
use Rattle.agent_clients.specs.declared.fault.ClientFault.TheVariants.{Io, GaveUp, Code, NoMemory, Partial, TooLong}
use Rattle.agent_clients.specs.declared.items.Items.{Items}
use Rattle.agent_clients.specs.declared.items.Items.TheVariants.{Urls, Attributes, Types, Acknowledged, Advert}
use Rattle.slp_messages.specs.declared.message.UrlEntry.{UrlEntry}
use Rattle.shown_text.specs.Shown.{shown, shown_byte}
use Rattle.slp_text.specs.Ascii.{line_feed, space}
use Rattle.slp_text.specs.Lists.{is_comma}

-- a URL and the seconds that are left of its lifetime
abbrev pub url_line : UrlEntry → List ℕ
url_line e = shown e.url ++ (space ∷ []) ++ decimal e.lifetime ++ (line_feed ∷ [])

-- a text on a line of its own
abbrev pub text_line : List ℕ → List ℕ
text_line text = shown text ++ line_feed ∷ []

-- each part of a list on a line of its own; of an empty list nothing
abbrev pub list_lines : List ℕ → List ℕ
list_lines [] = []
list_lines (b ∷ bs) = flat_map text_line (slice_split is_comma (b ∷ bs))

-- a byte of a list whose parts end in line feeds
abbrev pub listed_byte : ℕ → List ℕ
listed_byte b = if is_comma b then line_feed ∷ [] else shown_byte b

-- what a reply holds: of a directory agent its URL
abbrev pub items_text : Items → List ℕ
items_text (Urls entries) = flat_map url_line entries
items_text (Attributes text) = text_line text
items_text (Types list) = list_lines list
items_text Acknowledged = codes "ok" ++ line_feed ∷ []
items_text (Advert url scopes) = text_line url

-- why there is no reply
abbrev pub fault_text : ClientFault → List ℕ
fault_text Io = codes "! io" ++ line_feed ∷ []
fault_text GaveUp = codes "! no answer" ++ line_feed ∷ []
fault_text (Code n) = codes "! code " ++ decimal n ++ line_feed ∷ []
fault_text NoMemory = codes "! memory" ++ line_feed ∷ []
fault_text Partial = codes "! partial" ++ line_feed ∷ []
fault_text TooLong = codes "! too long" ++ line_feed ∷ []

abbrev pub fault_status : ClientFault → ℕ
fault_status Io = 1
fault_status GaveUp = 2
fault_status (Code n) = 3
fault_status NoMemory = 4
fault_status Partial = 5
fault_status TooLong = 6
