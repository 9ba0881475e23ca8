use Rattle.lj_end.proofs.account.Account.count.Goals as goal

pub count_by_name-requires : goal.count_by_name-requires
count_by_name-requires g c = c.requires c.if-by_name.true
