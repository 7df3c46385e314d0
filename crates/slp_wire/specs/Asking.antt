-- What requests say whose texts are lent.
use Rattle.std.specs.Prelude.{ℕ, List}
use Rattle.slp_messages.specs.Views.{attribute_request_in, request_in, type_request_in}
use Rattle.slp_messages.specs.declared.header.Header.{Header}
use Rattle.slp_messages.specs.declared.message.Message.{Message}
use Rattle.slp_messages.specs.declared.message.Message.TheVariants as message
use Rattle.slp_wire.specs.declared.question.QuestionView.{QuestionView}
use Rattle.slp_wire.specs.declared.question.QuestionView.TheVariants.{Services, Attributes, Types}

-- the message, with what it keeps of its header
abbrev pub question_in : Header → QuestionView → Message
question_in h (Services r) = message.ServiceRequest h (request_in r)
question_in h (Attributes r) = message.AttributeRequest h (attribute_request_in r)
question_in h (Types r) = message.TypeRequest h (type_request_in r)

-- who has answered it already
abbrev pub responders_in : QuestionView → List ℕ
responders_in (Services r) = r.responders.now
responders_in (Attributes r) = r.responders.now
responders_in (Types r) = r.responders.now
