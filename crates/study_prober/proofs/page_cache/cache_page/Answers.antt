use Rattle.std.proofs.Common.{inl, inr, sym, ◌∙◌, Contains, ap, subst}
use Rattle.lru.specs.LruCache.{put_entries}
use Rattle.lru.proofs.CallerLemmas.{Contains-put_entries}
use Rattle.study_prober.specs.contracts.page_cache.PageKeyPartialEq.TheImpl.{eq-value}
use Rattle.study_prober.proofs.Keys.{same_key-is, keys_compared}
use Rattle.study_prober.proofs.page_cache.cache_page.Goals as goal

pub returns-clause-more : goal.returns-clause-more
returns-clause-more g c = λ e h.
    elim (Contains-put_entries eq-value.it c.args.pages.now c.args.key c.in_ok-copy.copy e (subst (λ q. Contains q.entries e) c.in_ok-put.ensures.entries h)) [
      | inl was ↦ inl was
      | inr new ↦ inr (elim new.1 [ inl k ↦ k | inr k ↦ sym (same_key-is _ _ k.2) ], ap (λ v. v.items) new.0 ∙ c.in_ok-copy.ensures.items)
    ]

pub returns-clause-kept : goal.returns-clause-kept
returns-clause-kept g c = (
  c.in_ok-copy.copy,
  c.in_ok-copy.ensures.items,
  ap (λ q. q.entries) c.in_ok-put.ensures.entries ∙ ap (λ test. put_entries test c.args.pages.now c.args.key c.in_ok-copy.copy) keys_compared,
)
