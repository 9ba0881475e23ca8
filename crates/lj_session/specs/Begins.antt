-- The outcome of beginning a command.
use Rattle.std.specs.Prelude.{Result, Ok, Err}
use Rattle.lj_session.specs.declared.owner.Begin.{Begin}
use Rattle.lj_session.specs.declared.owner.Begin.TheVariants.{Answered, Running}
use Rattle.lj_session.specs.declared.refusal.Refusal.{Refusal}
use Rattle.lj_session.specs.declared.reply.Reply.{Reply}
use Rattle.lj_session.specs.declared.reply.Reply.TheVariants.{Refused}

-- a fact of the reply, if the command is answered at once
abbrev pub IfAnswered : Begin → (Reply → Type 0) → Type 0
IfAnswered (Answered reply) P = P reply
IfAnswered Running P = Unit {0}

-- a fact, if the command runs
abbrev pub OnRunning : Begin → Type 0 → Type 0
OnRunning (Answered reply) P = Unit {0}
OnRunning Running P = P

-- a fact, if a reply is a refusal
abbrev pub OnRefusal : Reply → Type 0 → Type 0
OnRefusal (Refused refusal) P = P
OnRefusal _ P = Unit {0}

-- a fact, if the command is refused
abbrev pub OnRefused : Begin → Type 0 → Type 0
OnRefused (Answered reply) P = OnRefusal reply P
OnRefused Running P = Unit {0}

-- the reply to a command, or its refusal
abbrev pub reply_of : Result Reply Refusal → Reply
reply_of (Ok reply) = reply
reply_of (Err refusal) = Refused refusal
