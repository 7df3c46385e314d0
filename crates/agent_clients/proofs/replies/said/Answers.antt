use Rattle.std.proofs.Common.{sym, ap, ◌∙◌}
use Rattle.agent_clients.specs.Replies.{said_in}
use Rattle.agent_clients.proofs.replies.said.Goals as goal

pub returns-in-ServiceReply : goal.returns-in-ServiceReply
returns-in-ServiceReply c = c.services_said.ensures c.in-ServiceReply.header ∙ ap said_in (sym c.in-ServiceReply.is)

pub returns-in-Acknowledgement : goal.returns-in-Acknowledgement
returns-in-Acknowledgement c = c.acknowledgement_said.ensures c.in-Acknowledgement.header ∙ ap said_in (sym c.in-Acknowledgement.is)

pub returns-in-AttributeReply : goal.returns-in-AttributeReply
returns-in-AttributeReply c = c.attributes_said.ensures c.in-AttributeReply.header ∙ ap said_in (sym c.in-AttributeReply.is)

pub returns-in-DirectoryAdvert : goal.returns-in-DirectoryAdvert
returns-in-DirectoryAdvert c = c.agent_said.ensures c.in-DirectoryAdvert.header ∙ ap said_in (sym c.in-DirectoryAdvert.is)

pub returns-in-TypeReply : goal.returns-in-TypeReply
returns-in-TypeReply c = c.types_said.ensures c.in-TypeReply.header ∙ ap said_in (sym c.in-TypeReply.is)
