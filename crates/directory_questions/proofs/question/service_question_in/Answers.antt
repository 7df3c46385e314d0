use Rattle.std.proofs.Common.{◌≡◌, ℕ, true, false, cond, List, Option, Some, sym, ap, ◌∙◌}
use Rattle.std.specs.Result.{result_ok}
use Rattle.std.proofs.lemmas.Result.{err_from_is_err_and, IfOk-weaker}
use Rattle.slp_scopes.specs.Scopes.{scopes_of}
use Rattle.search_filter.specs.Filters.{Filter}
use Rattle.search_filter.specs.Reading.{predicate_in}
use Rattle.slp_headers.specs.Headers.{heading_in}
use Rattle.slp_messages.specs.Views.{request_in}
use Rattle.slp_messages.specs.declared.header.Header.{Header}
use Rattle.slp_wire.specs.Reading.{kept_header}
use Rattle.service_url.specs.Types.{is_directory_agent, is_service_agent, type_of}
use Rattle.directory_questions.specs.Questions.{agents_in, services_as, services_by, services_in}
use Rattle.directory_questions.specs.declared.question.Question.{Question}
use Rattle.directory_questions.specs.declared.question.Question.TheVariants.{Services, Silent}
use Rattle.directory_questions.proofs.question.service_question_in.Goals as goal

-- a request of a type that is read
module _ (h : Header) (read : Option (List ℕ)) (scopes : Option (List (List ℕ))) (filter : Option (Option Filter)) (kind : List ℕ) (known : read ≡ Some kind) where
  of_directory_agents : is_directory_agent kind ≡ true → services_as h read scopes filter ≡ agents_in kind scopes filter
  of_directory_agents so = ap (λ o. services_as h o scopes filter) known ∙ ap (λ b. cond b (agents_in kind scopes filter) (cond (is_service_agent kind) Silent (services_in h kind scopes filter))) so

  of_others : is_directory_agent kind ≡ false → services_as h read scopes filter ≡ cond (is_service_agent kind) Silent (services_in h kind scopes filter)
  of_others other = ap (λ o. services_as h o scopes filter) known ∙ ap (λ b. cond b (agents_in kind scopes filter) (cond (is_service_agent kind) Silent (services_in h kind scopes filter))) other

  of_service_agents : is_directory_agent kind ≡ false → is_service_agent kind ≡ true → services_as h read scopes filter ≡ Silent
  of_service_agents other so = of_others other ∙ ap (λ b. cond b Silent (services_in h kind scopes filter)) so

  of_services : is_directory_agent kind ≡ false → is_service_agent kind ≡ false → services_as h read scopes filter ≡ services_in h kind scopes filter
  of_services other not = of_others other ∙ ap (λ b. cond b Silent (services_in h kind scopes filter)) not

pub returns-in_err-kind : goal.returns-in_err-kind
returns-in_err-kind c =
    let p = err_from_is_err_and c.from_residual.result c.from_residual.ensures.1 in
    rw p.1 tt

pub returns-in_err-scopes : goal.returns-in_err-scopes
returns-in_err-scopes c =
    let p = err_from_is_err_and c.from_residual-in_err-scopes.result c.from_residual-in_err-scopes.ensures.1 in
    rw p.1 tt

pub returns-in_err-language : goal.returns-in_err-language
returns-in_err-language c =
    let p = err_from_is_err_and c.from_residual-in_err-language.result c.from_residual-in_err-language.ensures.1 in
    rw p.1 tt

pub returns-in_err-filter : goal.returns-in_err-filter
returns-in_err-filter c =
    let p = err_from_is_err_and c.from_residual-in_err-filter.result c.from_residual-in_err-filter.ensures.1 in
    rw p.1 tt

pub returns-in_default : goal.returns-in_default
returns-in_default c =
    let h = kept_header (heading_in c.args.header.now) in
    let q = request_in c.args.request.now in
    ap (λ o. services_as h o (result_ok (scopes_of q.scopes)) (result_ok (predicate_in q.predicate))) (sym c.in_default.is ∙ c.in_ok-kind.ensures)

pub returns-then-is_directory_agent : goal.returns-then-is_directory_agent
returns-then-is_directory_agent c =
    let h = kept_header (heading_in c.args.header.now) in
    let q = request_in c.args.request.now in
    let kind = c.in-Some.kind in
    let scopes = result_ok (scopes_of q.scopes) in
    let filter = result_ok (predicate_in q.predicate) in
    let read = result_ok (type_of q.kind) in
    let so = of_directory_agents h read scopes filter kind (sym c.in_ok-kind.ensures ∙ c.in-Some.is) (sym c.is_directory_agent.ensures ∙ c.if-is_directory_agent.true) in
    IfOk-weaker c.agents_question_in.result (λ (x : Question). x ≡ agents_in kind scopes filter) (λ (x : Question). x ≡ services_as h read scopes filter) (λ x is. is ∙ sym so) c.agents_question_in.ensures

pub returns-then-is_service_agent : goal.returns-then-is_service_agent
returns-then-is_service_agent c =
    let q = request_in c.args.request.now in
    sym (of_service_agents (kept_header (heading_in c.args.header.now)) (result_ok (type_of q.kind)) (result_ok (scopes_of q.scopes)) (result_ok (predicate_in q.predicate)) c.in-Some.kind
    (sym c.in_ok-kind.ensures ∙ c.in-Some.is) (sym c.is_directory_agent.ensures ∙ c.if-is_directory_agent.false) (sym c.is_service_agent.ensures ∙ c.if-is_service_agent.true))

pub returns-in_default-2 : goal.returns-in_default-2
returns-in_default-2 c =
    let h = kept_header (heading_in c.args.header.now) in
    let q = request_in c.args.request.now in
    let filter = result_ok (predicate_in q.predicate) in
    sym (of_services h (result_ok (type_of q.kind)) (result_ok (scopes_of q.scopes)) filter c.in-Some.kind
    (sym c.in_ok-kind.ensures ∙ c.in-Some.is) (sym c.is_directory_agent.ensures ∙ c.if-is_directory_agent.false) (sym c.is_service_agent.ensures ∙ c.if-is_service_agent.false)
    ∙ ap (λ o. services_in h c.in-Some.kind o filter) (sym c.in_ok-scopes.ensures ∙ c.in_default-2.is))

pub returns-in-Some-3 : goal.returns-in-Some-3
returns-in-Some-3 c =
    let h = kept_header (heading_in c.args.header.now) in
    let q = request_in c.args.request.now in
    let kind = c.in-Some.kind in
    let filter = result_ok (predicate_in q.predicate) in
    ap (λ l. Services (record { kind = kind; scopes = c.in-Some-2.scopes; language = l; filter = c.in-Some-3.filter })) c.in_ok-language.ensures
    ∙ sym (of_services h (result_ok (type_of q.kind)) (result_ok (scopes_of q.scopes)) filter kind
    (sym c.in_ok-kind.ensures ∙ c.in-Some.is) (sym c.is_directory_agent.ensures ∙ c.if-is_directory_agent.false) (sym c.is_service_agent.ensures ∙ c.if-is_service_agent.false)
    ∙ ap (λ o. services_in h kind o filter) (sym c.in_ok-scopes.ensures ∙ c.in-Some-2.is)
    ∙ ap (services_by h kind c.in-Some-2.scopes) (sym c.in_ok-filter.ensures ∙ c.in-Some-3.is))

pub returns-in-None : goal.returns-in-None
returns-in-None c =
    let h = kept_header (heading_in c.args.header.now) in
    let q = request_in c.args.request.now in
    let kind = c.in-Some.kind in
    let filter = result_ok (predicate_in q.predicate) in
    sym (of_services h (result_ok (type_of q.kind)) (result_ok (scopes_of q.scopes)) filter kind
    (sym c.in_ok-kind.ensures ∙ c.in-Some.is) (sym c.is_directory_agent.ensures ∙ c.if-is_directory_agent.false) (sym c.is_service_agent.ensures ∙ c.if-is_service_agent.false)
    ∙ ap (λ o. services_in h kind o filter) (sym c.in_ok-scopes.ensures ∙ c.in-Some-2.is)
    ∙ ap (services_by h kind c.in-Some-2.scopes) (sym c.in_ok-filter.ensures ∙ c.in-None.is))
