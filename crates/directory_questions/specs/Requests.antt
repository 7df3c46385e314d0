-- What messages ask for, by their function (RFC 2608, sections 8 to 10).
use Rattle.std.specs.Prelude.{◌≢◌, ℕ, Bool, ◌==◌, ◌||◌, List, IfSome, if◌then◌else◌}
use Rattle.access_rules.specs.declared.rule.Action.{Action}
use Rattle.access_rules.specs.declared.rule.Action.TheVariants.{Register, Withdraw, See}
use Rattle.slp_headers.specs.Headers.{Heading, heading_of}
use Rattle.slp_messages.specs.declared.function.TheConstants.{SERVICE_REQUEST, REGISTRATION, WITHDRAWAL, ATTRIBUTE_REQUEST, TYPE_REQUEST}
use Rattle.directory_questions.specs.declared.request.Request.{Request}
use Rattle.directory_questions.specs.declared.request.Request.TheVariants.{Services, Registration, Withdrawal, Attributes, Types}

-- the function of the messages that ask for it
abbrev pub function_in : Request → ℕ
function_in Services = SERVICE_REQUEST
function_in Registration = REGISTRATION
function_in Withdrawal = WITHDRAWAL
function_in Attributes = ATTRIBUTE_REQUEST
function_in Types = TYPE_REQUEST

-- a registration or a withdrawal
abbrev pub is_change_function : ℕ → Bool
is_change_function function = function == REGISTRATION || function == WITHDRAWAL

-- a request for services, attributes or types
abbrev pub is_question_function : ℕ → Bool
is_question_function function = function == SERVICE_REQUEST || function == ATTRIBUTE_REQUEST || function == TYPE_REQUEST

-- what the rules are asked about
abbrev pub action_of : Heading → Action
action_of h = if h.function == REGISTRATION then Register else (if h.function == WITHDRAWAL then Withdraw else See)

-- a message of another function is not answered
abbrev pub IsUnanswered : ℕ → Type 0
IsUnanswered function = (function ≢ SERVICE_REQUEST) × ((function ≢ REGISTRATION) × ((function ≢ WITHDRAWAL) × ((function ≢ ATTRIBUTE_REQUEST) × (function ≢ TYPE_REQUEST))))

-- nothing that is answered is heard of bytes: no header is readable, or it is of another function
abbrev pub IsUnheard : List ℕ → Type 0
IsUnheard bytes = IfSome (heading_of bytes) (λ h. IsUnanswered h.function)
