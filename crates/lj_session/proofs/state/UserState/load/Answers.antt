use Rattle.std.proofs.Common.{◌≡◌, ◌+◌, false, length, Result, Ok, Err, refl, sym, ap, subst, ◌∙◌, rules}
use Rattle.std.specs.Result.{OnErr}
use Rattle.lj_xyz.specs.Lines.{lines_of}
use Rattle.lj_xyz.specs.Reading.{reading, FailsAs}
use Rattle.lj_quota.specs.declared.Over.TheVariants.{Atoms}
use Rattle.lj_session.specs.declared.refusal.Refusal.TheVariants.{Memory}
use Rattle.lj_session.specs.Faults.{quota_refusal, xyz_refusal}
use Rattle.lj_session.specs.Loads.{reading_mode}
use Rattle.lj_session.specs.ParsedLoads.{frames_of, last_of, held_from}
use Rattle.lj_session.proofs.Holding.{inserted}
use Rattle.lj_session.proofs.Performing.{refused}
use Rattle.lj_session.proofs.Loading as loading
use Rattle.lj_session.proofs.Results.{performs-refused}
use Rattle.lj_session.proofs.Totals.{used-more}
use Rattle.lj_session.proofs.Limits.{over-limit, same_over, sessions-within, atoms-over, atoms-room}
use Rattle.lj_session.proofs.Reaching.{reached-done}
use Rattle.lj_session.specs.declared.command.Command.TheVariants.{Load}
use Rattle.lj_session.specs.UserState.{UserState, Performs, user_of}
use Rattle.lj_session.specs.Interactions.{load_reply, symbols_of}
use Rattle.lj_session.proofs.state.UserState.load.Goals.{In_ok-parsed, In_ok-insert}
use Rattle.lj_session.proofs.state.UserState.load.Goals as goal

-- the frames that were read are those of the species that the load asks for
was_read : (c : In_ok-parsed)
    → reading (symbols_of c.args.load.interactions) (reading_mode c.args.load.mode) (lines_of c.in-Read.body)
    ≡ Ok (frames_of c.in_ok-parsed.parsed.first c.in_ok-parsed.parsed.second)
was_read c =
    ap (λ symbols. reading symbols (reading_mode c.args.load.mode) (lines_of c.in-Read.body)) (sym c.symbols-symbols.ensures)
    ∙ c.in_ok-parsed.ensures

-- and so is the session that was made
made_is : (c : In_ok-insert)
    → c.in_ok-session.session ≡ held_from c.in_ok-mix.mix (symbols_of c.args.load.interactions)
    c.in_ok-parsed.parsed.first (last_of c.in_ok-parsed.parsed.first c.in_ok-parsed.parsed.second)
made_is c =
    let parsed = c.in_ok-parsed.parsed in
    c.in_ok-session.ensures
    ∙ ap (λ symbols. held_from c.in_ok-mix.mix symbols parsed.first (last_of parsed.first parsed.second))
    c.symbols-symbols.ensures

pub returns-in_err-mix-clause-performs : goal.returns-in_err-mix-clause-performs
returns-in_err-mix-clause-performs c =
    let old = c.args.self.now in
    performs-refused old _ _ c.from_residual.result c.in_err-mix.field-0.0 c.from_residual.ensures.1
    (refused old _ _ _ (loading.load-refused (user_of old) c.args.load false c.in_err-mix.field-0.0
    (sym c.in_err-mix.ensures)))

pub returns-in_default-clause-performs : goal.returns-in_default-clause-performs
returns-in_default-clause-performs c =
    let old = c.args.self.now in
    loading.load-starved old old c.args.load c.in_ok-mix.mix (sym c.in_ok-mix.ensures)

pub returns-in_err-parsed-clause-performs : goal.returns-in_err-parsed-clause-performs
returns-in_err-parsed-clause-performs c =
    let old = c.args.self.now in
    (performs-refused old _ _ c.from_residual-in_err-parsed.result (xyz_refusal c.in_err-parsed.field-0.0)
    c.from_residual-in_err-parsed.ensures.1
    (loading.not-read old old c.args.load c.in_ok-mix.mix (sym c.in_ok-mix.ensures)
    c.in-Read.body c.in-Read.is c.in_err-parsed.field-0.0
    (subst (λ symbols. FailsAs c.in_err-parsed.field-0.0
    (reading symbols (reading_mode c.args.load.mode) (lines_of c.in-Read.body)))
    c.symbols-symbols.ensures c.in_err-parsed.ensures)))

pub returns-in_err-may_load-clause-performs : goal.returns-in_err-may_load-clause-performs
returns-in_err-may_load-clause-performs c =
    let old = c.args.self.now in
    let parsed = c.in_ok-parsed.parsed in
    let is_mix = sym c.in_ok-mix.ensures in
    let room = sessions-within c.self.inside old c.self.view_is c.self.invariant.counted
    (loading.new-admitted (user_of old) c.args.load c.in_ok-mix.mix is_mix).1 in
    let over =
    over-limit (c.self.inside.used.atoms + c.count-atoms.result) c.self.inside.quota.atoms
    (λ within. c.in_err-may_load.ensures.may.1 (room, within)) in
    let which = same_over c.in_err-may_load.field-0.0 Atoms (c.in_err-may_load.ensures.atoms.1 (room, over)) in
    (performs-refused old _ _ c.from_residual-in_err-may_load.result (quota_refusal c.in_err-may_load.field-0.0)
    c.from_residual-in_err-may_load.ensures.1
    (rw which (loading.too-many old old c.args.load c.in_ok-mix.mix is_mix c.in-Read.body c.in-Read.is parsed.first
    parsed.second (was_read (goal.at.returns-in_err-may_load-clause-performs c).In_ok-parsed) parsed.same
    (atoms-over c.self.inside old c.self.view_is c.self.invariant.counted c.count-atoms.result (length parsed.first)
    c.count-atoms.ensures.value over))))

pub returns-in_err-session-clause-performs : goal.returns-in_err-session-clause-performs
returns-in_err-session-clause-performs c =
    let old = c.args.self.now in
    (performs-refused old _ _ c.from_residual-in_err-session.result Memory c.from_residual-in_err-session.ensures.1
    (loading.load-starved old old c.args.load c.in_ok-mix.mix (sym c.in_ok-mix.ensures)))

pub returns-in_err-insert-clause-performs : goal.returns-in_err-insert-clause-performs
returns-in_err-insert-clause-performs c =
    let old = c.args.self.now in
    (performs-refused old _ _ c.from_residual-in_err-insert.result Memory c.from_residual-in_err-insert.ensures.1
    (loading.load-starved old _ c.args.load c.in_ok-mix.mix (sym c.in_ok-mix.ensures)))

-- the session is loaded
was_loaded : (c : In_ok-insert)
    → reading (symbols_of c.args.load.interactions) (reading_mode c.args.load.mode) (lines_of c.in-Read.body)
    ≡ Ok (frames_of c.in_ok-parsed.parsed.first c.in_ok-parsed.parsed.second)
    → Performs c.args.self.now (Load c.args.load)
    (Ok (load_reply c.args.load.interactions c.args.load.name c.count-atoms.result))
    (record { quota = c.self.inside.quota; sessions = c.insert.new.self.entries })
was_loaded c read =
    let old = c.args.self.now in
    let parsed = c.in_ok-parsed.parsed in
    let made = held_from c.in_ok-mix.mix (symbols_of c.args.load.interactions) parsed.first (last_of parsed.first parsed.second) in
    loading.load-loads old _ c.args.load c.in_ok-mix.mix (sym c.in_ok-mix.ensures)
    c.in-Read.body c.in-Read.is parsed.first parsed.second read parsed.same
    c.count-atoms.result c.count-atoms.ensures.value
    (atoms-room c.self.inside old c.self.view_is c.self.invariant.counted c.count-atoms.result (length parsed.first)
    c.count-atoms.ensures.value (c.in_ok-may_load.ensures.may.0 refl).1)
    (inserted c.self.inside old c.self.view_is c.args.load.name c.copy.result c.copy.ensures _ c.in_ok-session.session
    made (made_is c) c.in_ok-insert.ensures.entries)

pub invariant_of-self-2 : goal.invariant_of-self-2
invariant_of-self-2 c =
    let old = c.args.self.now in
    let parsed = c.in_ok-parsed.parsed in
    let made = held_from c.in_ok-mix.mix (symbols_of c.args.load.interactions) parsed.first (last_of parsed.first parsed.second) in
    let is_in =
    inserted c.self.inside old c.self.view_is c.args.load.name c.copy.result c.copy.ensures _ c.in_ok-session.session
    made (made_is (goal.at.invariant_of-self-2 c).In_ok-insert) c.in_ok-insert.ensures.entries in record {
      counted = used-more c.self.inside old c.self.view_is c.self.invariant.counted c.args.load.name
          (loading.absent-admitted old old c.args.load c.in_ok-mix.mix (sym c.in_ok-mix.ensures)) _ made is_in
          c.count-atoms.result (c.count-atoms.ensures.value
          ∙ sym (loading.atoms-opened c.in_ok-mix.mix (symbols_of c.args.load.interactions) parsed.first
          (last_of parsed.first parsed.second) parsed.same)) refl;
      reached = reached-done c.self.inside old _ c.self.view_is c.self.invariant (Load c.args.load) _
          (was_loaded (goal.at.invariant_of-self-2 c).In_ok-insert
          (was_read (goal.at.invariant_of-self-2 c).In_ok-parsed)) (ap (λ (o : UserState). o.quota) is_in);
    }

pub returns-clause-performs : goal.returns-clause-performs
returns-clause-performs c =
    let p = goal.at.returns-clause-performs c in
    rw c.loaded.ensures (was_loaded p.In_ok-insert (was_read p.In_ok-parsed))

-- what holds at all holds if there is an error
if_refused : {T E P : Type 0} (r : Result T E) → P → OnErr r P
if_refused (Ok value) holds = record {}
if_refused (Err error) holds = holds

pub returns-in_err-insert-clause-unchanged : goal.returns-in_err-insert-clause-unchanged
returns-in_err-insert-clause-unchanged c =
    if_refused c.from_residual-in_err-insert.result (search (rules, c.in_err-insert.ensures.err, c.self.view_is))
