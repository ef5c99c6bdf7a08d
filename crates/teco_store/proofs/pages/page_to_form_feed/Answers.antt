use Rattle.teco_store.proofs.PageEnds.{page_whole, page_front}
use Rattle.std.proofs.Common.{sym}
use Rattle.teco_store.proofs.pages.page_to_form_feed.Goals as goal

pub returns-in-None-clause-bytes : goal.returns-in-None-clause-bytes
returns-in-None-clause-bytes c = sym (page_whole c.args.left.now c.in-None.ensures).page

pub returns-in-None-clause-form_feed : goal.returns-in-None-clause-form_feed
returns-in-None-clause-form_feed c = sym (page_whole c.args.left.now c.in-None.ensures).ended

pub returns-in-Some-clause-bytes : goal.returns-in-Some-clause-bytes
returns-in-Some-clause-bytes c = sym (page_front c.args.left.now c.in-Some.end c.in-Some.ensures).page

pub returns-in-Some-clause-form_feed : goal.returns-in-Some-clause-form_feed
returns-in-Some-clause-form_feed c = sym (page_front c.args.left.now c.in-Some.end c.in-Some.ensures).ended
