mod FirstFree
