-- A shared poll list and the ends that push to it, as contracts see them.
use Rattle.std.specs.{Prelude.{◌≡◌, ℕ, ◌+◌, ◌<◌, ◌≤◌, List, [], ◌++◌, map, length, slice_index_or, ◌⊎◌}, List.All}
use Rattle.crossbeam_queue.specs.Passes.{view}
use Rattle.poll_engine.specs.{declared.list_in.ListIn.ListIn, declared.shared.SharedList.SharedList, declared.list_rule.Returned.Returned}
use Rattle.poll_engine.specs.PushOrder.{Push, returned_end, ids_of, pushes_by, IsReturned, WasEmpty, returned_pushes}
use Rattle.poll_engine.specs.EmptyPops.{CountsMore, CountsOne}

module _ {R : Type 0} where
  -- the instances that were pushed at this end, in order
  abbrev pub pushed_by : ListIn R → List ℕ
  pushed_by end = (view end.pass).pushed

  -- the number of an end: the poller's is 0, the ends for pushing have 1, 2 and so on
  abbrev pub end_number : ListIn R → ℕ
  end_number end = (view end.pass).number

  -- the instances that the poller pushed and popped, in order
  abbrev pub own_pushes : SharedList R → List ℕ
  own_pushes list = (view list.pass).pushed

  abbrev pub popped_by : SharedList R → List ℕ
  popped_by list = (view list.pass).popped

  -- the numbers that the poller holds itself, because the queue had no room for them
  abbrev pub in_hand : SharedList R → List ℕ
  in_hand list = list.hand

  -- how many ends for pushing were made
  abbrev pub pushers_of : SharedList R → ℕ
  pushers_of list = list.pushers

  -- the end belongs to the list
  abbrev pub IsInOf : SharedList R → ListIn R → Type 0
  IsInOf list end = end.pass.table_id ≡ list.pass.table_id

  -- a new list, with this many ends for pushing
  abbrev pub IsNewList : ℕ → SharedList R → Type 0
  IsNewList pushers list = (pushers_of list ≡ pushers) × (own_pushes list ≡ []) × (popped_by list ≡ []) × (in_hand list ≡ [])

  -- the new ends of the list: this many, numbered 1, 2 and so on, in order
  abbrev pub AreNewEnds : SharedList R → ℕ → List (ListIn R) → Type 0
  AreNewEnds list pushers ins =
      (length ins ≡ pushers)
      × All (λ (end : ListIn R). IsInOf list end × (pushed_by end ≡ [])) ins
      × ((k : ℕ) (d : ListIn R) → k < pushers → end_number (slice_index_or ins k d) ≡ k + 1)

  -- an end at two times: it is the same end of the same list
  abbrev pub SameListIn : ListIn R → ListIn R → Type 0
  SameListIn before after = (after.pass.table_id ≡ before.pass.table_id) × (end_number after ≡ end_number before)

  abbrev pub SameList : SharedList R → SharedList R → Type 0
  SameList before after = (after.pass.table_id ≡ before.pass.table_id) × (pushers_of after ≡ pushers_of before)

  -- between these two times the poller pushed the first instances, popped the second ones, and found the queue empty at least
  -- this many times
  abbrev pub PopsCame : SharedList R → List ℕ → List ℕ → ℕ → SharedList R → Type 0
  PopsCame before pushed came found after =
      SameList before after
      × (own_pushes after ≡ own_pushes before ++ pushed)
      × (popped_by after ≡ popped_by before ++ came)
      × CountsMore found before.pops after.pops

  -- either 64 entries were taken, or the poller had found the queue empty
  abbrev pub IsAllPopped : List ℕ → SharedList R → Type 0
  IsAllPopped taken list = length taken < 64 → WasEmpty (view list.pass)

  -- between these two times one pop found the queue empty, when everything pushed until then had been popped
  abbrev pub FindsEmpty : SharedList R → SharedList R → Type 0
  FindsEmpty before after = CountsOne before.pops after.pops

  -- the poller has room for this many entries besides those that it holds itself
  abbrev pub HandsHaveRoom : SharedList R → ℕ → Type 0
  HandsHaveRoom list n = length (in_hand list) + n ≤ 64

  -- it has room for one more entry, which it needs for a push into a full queue: that moves the first entry of the queue to the
  -- poller
  abbrev pub HandsHavePlace : SharedList R → Type 0
  HandsHavePlace list = length (in_hand list) < 64

  -- what is known of an end after it is returned
  abbrev pub as_returned : ListIn R → Returned
  as_returned end = returned_end (end_number end) (pushed_by end)

  -- one of these ends has this number
  abbrev pub IsNumbered : ℕ → List (ListIn R) → Type 0
  IsNumbered number ins = IsReturned number (map as_returned ins)

  -- how many pushes the poller and these ends made
  abbrev pub pushes_of : SharedList R → List (ListIn R) → ℕ
  pushes_of list ins = length (own_pushes list) + returned_pushes (map as_returned ins)

  -- at most 64 entries are with the poller and in the queue together
  abbrev pub AreFew : SharedList R → List (ListIn R) → Type 0
  AreFew list ins = length (in_hand list) + pushes_of list ins ≤ 64 + length (popped_by list)

  -- The order of all pushes to this list, if these are all its ends and these entries are left in the queue.
  pub record IsOneOrder (list : SharedList R) (ins : List (ListIn R)) (left : List ℕ) (order : List Push) : Type 0 where
    -- the entries popped are its first part, and those left are the rest: each push occurs once
    pub all : ids_of order ≡ popped_by list ++ left
    -- it has exactly the pushes of the poller and of each end, each in the order of that end
    pub by_poller : own_pushes list ≡ pushes_by 0 order
    pub by_others : All (λ (end : ListIn R). pushed_by end ≡ pushes_by (end_number end) order) ins
    pub nobody_else : (number : ℕ) → (number ≡ 0) ⊎ (IsNumbered number ins ⊎ (pushes_by number order ≡ []))
