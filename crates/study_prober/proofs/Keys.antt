-- The derived `==` of two keys decides whether they are the same, and is the comparison that the contracts name.
use mathlib.Core.Path.{fun_ext}
use denote.Enum.Bare.{sameb, same_true}
use denote.Enum.Declared.{tag_of}
use Rattle.std.proofs.Common.{◌≡◌, ◌&&◌, ◌==◌, true, refl, ap, rules}
use Rattle.study_material.specs.declared.class.Class.{Class}
use Rattle.study_material.specs.contracts.class.Class.{the_type}
use Rattle.study_material.specs.Class.{class_number}
use Rattle.study_prober.specs.declared.page_cache.PageKey.{PageKey}
use Rattle.study_prober.specs.contracts.page_cache.PageKeyPartialEq.TheImpl.{eq-value}
use Rattle.study_prober.specs.PageCache.{same_class, same_key}

place_of : (c : Class) → tag_of the_type c ≡ class_number c
place_of c = search rules

classes_compared : (c d : Class) → sameb the_type c d ≡ same_class c d
classes_compared c d = rw (place_of c, place_of d) refl

same_class-is : (c d : Class) → sameb the_type c d ≡ true → c ≡ d
same_class-is = same_true the_type (search rules)

pub same_key-is : (a b : PageKey) → eq-value.it a b ≡ true → a ≡ b
same_key-is a b h = search (same_class-is, rules)

pub keys_compared : eq-value.it ≡ same_key
keys_compared = fun_ext (λ a. fun_ext (λ b. ap (λ t. t && (a.number == b.number)) (classes_compared a.class b.class)))
