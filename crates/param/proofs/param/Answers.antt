use Rattle.std.proofs.Common.{rules, arith}
use Rattle.lists.specs.Lists.{host_after, host_pushed}
use Rattle.apply.specs.Apply.{fault_of, after}
use Rattle.param.proofs.Laws.{by_kind, other, word-is, hosts-are, addresses-are, ports-are, within}
use Rattle.param.proofs.param.Goals as goal

pub append_all-requires : goal.append_all-requires
append_all-requires c =
    (omega arith, within c.args.start c.args.end c.args.buffer.now c.part-v.result.now c.part-v.ensures (omega arith) (omega (arith, c.well_formed)))

pub returns-in-1 : goal.returns-in-1
unfolding fault_of after
returns-in-1 c =
    by_kind _ 1 _ _ _ _ _ _ c.in-1.is c.part-v.ensures c.put_text.ensures.value (λ _. rw c.put_text.ensures.field_after)

pub returns-in-2 : goal.returns-in-2
unfolding fault_of after
returns-in-2 c =
    by_kind _ 2 _ _ _ _ _ _ c.in-2.is c.part-v.ensures c.put_text-in-2.ensures.value (λ _. rw c.put_text-in-2.ensures.field_after)

pub returns-in-3 : goal.returns-in-3
unfolding fault_of after
returns-in-3 c =
    by_kind _ 3 _ _ _ _ _ _ c.in-3.is c.part-v.ensures c.put_text-in-3.ensures.value (λ _. rw c.put_text-in-3.ensures.field_after)

pub returns-in-4 : goal.returns-in-4
unfolding fault_of after
returns-in-4 c =
    by_kind _ 4 _ _ _ _ _ _ c.in-4.is c.part-v.ensures c.put_text-in-4.ensures.value (λ _. rw c.put_text-in-4.ensures.field_after)

pub returns-in-5 : goal.returns-in-5
unfolding fault_of after
returns-in-5 c =
    by_kind _ 5 _ _ _ _ _ _ c.in-5.is c.part-v.ensures c.put_text-in-5.ensures.value (λ _. rw c.put_text-in-5.ensures.field_after)

pub returns-in-6 : goal.returns-in-6
unfolding fault_of after
returns-in-6 c =
    by_kind _ 6 _ _ _ _ _ _ c.in-6.is c.part-v.ensures c.put_word.ensures.value (λ e. rw (c.put_word.ensures.field_after, word-is _ _ _ e))

pub returns-in-7 : goal.returns-in-7
unfolding fault_of after
returns-in-7 c =
    by_kind _ 7 _ _ _ _ _ _ c.in-7.is c.part-v.ensures c.put_word-in-7.ensures.value (λ e. rw (c.put_word-in-7.ensures.field_after, word-is _ _ _ e))

pub returns-in-8 : goal.returns-in-8
unfolding fault_of after
returns-in-8 c =
    let a = hosts-are _ _ _ _ c.args.config.now.host _ c.append_all.ensures in by_kind _ 8 _ _ _ _ _ _ c.in-8.is c.part-v.ensures a.0 (λ e. rw (a.1 e))

pub returns-in-9 : goal.returns-in-9
unfolding fault_of after
returns-in-9 c =
    let a = addresses-are _ _ 0 _ c.args.config.now.hostaddr _ c.append_each.ensures in by_kind _ 9 _ _ _ _ _ _ c.in-9.is c.part-v.ensures a.0 (λ e. rw (a.1 e))

pub returns-in-10 : goal.returns-in-10
unfolding fault_of after
returns-in-10 c =
    let a = ports-are _ _ 0 _ c.args.config.now.port _ c.append_each-in-10.ensures in by_kind _ 10 _ _ _ _ _ _ c.in-10.is c.part-v.ensures a.0 (λ e. rw (a.1 e))

pub returns-in-11 : goal.returns-in-11
unfolding fault_of after
returns-in-11 c =
    by_kind _ 11 _ _ _ _ _ _ c.in-11.is c.part-v.ensures c.put_time.ensures.value (λ _. rw c.put_time.ensures.field_after)

pub returns-in-12 : goal.returns-in-12
unfolding fault_of after
returns-in-12 c =
    by_kind _ 12 _ _ _ _ _ _ c.in-12.is c.part-v.ensures c.put_time-in-12.ensures.value (λ _. rw c.put_time-in-12.ensures.field_after)

pub returns-in-13 : goal.returns-in-13
unfolding fault_of after
returns-in-13 c =
    by_kind _ 13 _ _ _ _ _ _ c.in-13.is c.part-v.ensures c.put_keepalives.ensures.value (λ _. rw c.put_keepalives.ensures.field_after)

pub returns-in-14 : goal.returns-in-14
unfolding fault_of after
returns-in-14 c =
    by_kind _ 14 _ _ _ _ _ _ c.in-14.is c.part-v.ensures c.put_idle.ensures.value (λ _. rw c.put_idle.ensures.field_after)

pub returns-in-15 : goal.returns-in-15
unfolding fault_of after
returns-in-15 c =
    by_kind _ 15 _ _ _ _ _ _ c.in-15.is c.part-v.ensures c.put_time-in-15.ensures.value (λ _. rw c.put_time-in-15.ensures.field_after)

pub returns-in-16 : goal.returns-in-16
unfolding fault_of after
returns-in-16 c =
    by_kind _ 16 _ _ _ _ _ _ c.in-16.is c.part-v.ensures c.put_retries.ensures.value (λ _. rw c.put_retries.ensures.field_after)

pub returns-in-17 : goal.returns-in-17
unfolding fault_of after
returns-in-17 c =
    by_kind _ 17 _ _ _ _ _ _ c.in-17.is c.part-v.ensures c.put_word-in-17.ensures.value (λ e. rw (c.put_word-in-17.ensures.field_after, word-is _ _ _ e))

pub returns-in-18 : goal.returns-in-18
unfolding fault_of after
returns-in-18 c =
    by_kind _ 18 _ _ _ _ _ _ c.in-18.is c.part-v.ensures c.put_word-in-18.ensures.value (λ e. rw (c.put_word-in-18.ensures.field_after, word-is _ _ _ e))

pub returns-in-19 : goal.returns-in-19
unfolding fault_of after
returns-in-19 c =
    by_kind _ 19 _ _ _ _ _ _ c.in-19.is c.part-v.ensures c.put_word-in-19.ensures.value (λ e. rw (c.put_word-in-19.ensures.field_after, word-is _ _ _ e))

pub returns-in-20 : goal.returns-in-20
unfolding fault_of after host_after host_pushed
returns-in-20 c =
    by_kind _ 20 _ _ _ _ _ _ c.in-20.is c.part-v.ensures c.append.ensures.value (λ _. rw (← c.append.ensures.list_after))

pub returns-in_default : goal.returns-in_default
returns-in_default c =
    other _ _ _ _ (search rules)
